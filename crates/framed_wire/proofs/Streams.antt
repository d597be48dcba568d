-- What was given, and all the frames that may be taken.
use Rattle.std.proofs.Common.{◌≡◌, ℕ, zero, suc, ◌+◌, ◌-◌, ◌≤◌, List, [], ◌∷◌, ◌++◌, length, length-append, take, Option, None, Some, refl, ap, subst, ◌∙◌, arith}
use Rattle.std.proofs.Math.Seq.{take-append-add}
use Rattle.std.proofs.lemmas.List.{append-nil}
use Rattle.std.specs.Io.KnownBytes.{prepend_known, IsAtEnd}
use Rattle.ed2k_frame.specs.Reading.{Reading}
use Rattle.ed2k_frame.specs.Streams.{IsEnd, Parts, Splits}
use Rattle.ed2k_frame.specs.declared.fault.FrameFault.{FrameFault}
use Rattle.ed2k_frame.specs.declared.frame.Frame.{Frame}
use Rattle.ed2k_frame.proofs.Fronts.{fault_stays}
use Rattle.ed2k_frame.proofs.StreamLaws.{given_first, one_reading, splits_feed}
use Rattle.framed_wire.specs.Laws.{GivenComesFirst, StopsEnd}
use Rattle.framed_wire.specs.declared.stop.Stop.TheVariants.{Ended, WireFault, BadFrame, Spent, NoMemory}

-- the bytes left of a stream
leaves : (stream got : List ℕ) (known : Option (List ℕ)) → Some stream ≡ prepend_known got known → (left : List ℕ) × (known ≡ Some left) × (stream ≡ got ++ left)
leaves stream got None front = cc
leaves stream got (Some left) front = (left, refl, cc)

-- the bytes that may be taken are those that were, and more
more_to_take : (got left : List ℕ) (budget : ℕ) → length got ≤ budget → take budget (got ++ left) ≡ got ++ take (budget - length got) left
more_to_take got left budget fits =
    let size : budget ≡ length got + (budget - length got) = omega arith in
    ap (λ n. take n (got ++ left)) size ∙ take-append-add got left (budget - length got)

-- all frames are those that were given, and those of the rest
rest_parts : (stream : List ℕ) (given frames : List Frame) (end : Reading) (budget : ℕ) (got unread left : List ℕ) → Splits got given unread → length got ≤ budget → stream ≡ got ++ left →
    Parts (take budget stream) frames end → (later : List Frame) × (frames ≡ given ++ later) × Parts (unread ++ take (budget - length got) left) later end
rest_parts stream given frames end budget got unread left splits fits is parts =
    let more = take (budget - length got) left in
    let same : take budget stream ≡ got ++ more = ap (take budget) is ∙ more_to_take got left budget fits in
    given_first (got ++ more) given (unread ++ more) frames end (splits_feed got given unread more splits)
    (subst (λ (bytes : List ℕ). Parts bytes frames end) same parts)

pub given_comes_first : GivenComesFirst
given_comes_first stream given frames end budget now has within parts =
    let (left, told, is) = leaves stream has.got now.left has.front in
    let (later, same, rest) = rest_parts stream given frames end budget has.got now.unread left has.splits (omega (arith, has.counted)) is parts in
    (later, same)

-- where no frame stands in the rest, none comes later
none_later : (rest : List ℕ) (given frames later : List Frame) (end : Reading) (said : Option FrameFault) → frames ≡ given ++ later → Parts rest later end → IsEnd said rest → (frames ≡ given) × (end.said ≡ said)
none_later rest given frames later end said same parts ended =
    let here : Reading = record { rest = rest; said = said } in
    let alone : Parts rest [] here = record { splits = record { each = tt; joined = refl }; ended = ended } in
    let one = one_reading rest later [] end here parts alone in
    (same ∙ ap (λ more. given ++ more) one.0 ∙ append-nil given, ap (λ (reading : Reading). reading.said) one.1)

take_nothing : (n : ℕ) (bytes : List ℕ) → bytes ≡ [] → take n bytes ≡ []
take_nothing zero [] none = refl
take_nothing (suc n) [] none = refl
take_nothing n (b ∷ bytes) none = cc

pub stops_end : StopsEnd
stops_end stream given frames end budget Ended old now has within cause parts =
    let (left, told, is) = leaves stream has.got now.left has.front in
    let empty : left ≡ [] = subst IsAtEnd told cause.1 in
    let (later, same, rest) = rest_parts stream given frames end budget has.got now.unread left has.splits (omega (arith, has.counted)) is parts in
    let none : now.unread ++ take (budget - length has.got) left ≡ now.unread = ap (λ bytes. now.unread ++ bytes) (take_nothing (budget - length has.got) left empty) ∙ append-nil now.unread in
    let found = none_later now.unread given frames later end None same (subst (λ (bytes : List ℕ). Parts bytes later end) none rest) cause.2 in
    let size : length stream ≡ length has.got = ap length is ∙ ap (λ bytes. length (has.got ++ bytes)) empty ∙ ap length (append-nil has.got) in
    (found.0, found.1, omega (arith, size, has.counted, cause.0))
stops_end stream given frames end budget Spent old now has within cause parts =
    let (left, told, is) = leaves stream has.got now.left has.front in
    let (later, same, rest) = rest_parts stream given frames end budget has.got now.unread left has.splits (omega (arith, has.counted)) is parts in
    let no_more : budget - length has.got ≡ 0 = omega (arith, has.counted, cause.0) in
    let none : now.unread ++ take (budget - length has.got) left ≡ now.unread = ap (λ bytes. now.unread ++ bytes) (ap (λ n. take n left) no_more) ∙ append-nil now.unread in
    let found = none_later now.unread given frames later end None same (subst (λ (bytes : List ℕ). Parts bytes later end) none rest) cause.1 in
    let size : length stream ≡ length has.got + length left = ap length is ∙ length-append has.got left in
    (found.0, found.1, omega (arith, size, has.counted, cause.0))
stops_end stream given frames end budget (BadFrame fault) old now has within cause parts =
    let (left, told, is) = leaves stream has.got now.left has.front in
    let more = take (budget - length has.got) left in
    let (later, same, rest) = rest_parts stream given frames end budget has.got now.unread left has.splits (omega (arith, has.counted)) is parts in
    none_later (now.unread ++ more) given frames later end (Some fault) same rest (fault_stays fault now.unread more cause)
stops_end stream given frames end budget WireFault old now has within cause parts = tt
stops_end stream given frames end budget NoMemory old now has within cause parts = tt

-- The laws of streams: each has parts, and no two.
use Rattle.std.proofs.Common.{◌≡◌, ℕ, zero, suc, ◌+◌, ◌-◌, ◌<◌, List, [], ◌∷◌, ◌++◌, length, take, drop, get_or, refl, sym, ap, subst, ◌∙◌, append_assoc, length-drop, arith, Option, None, Some}
use Rattle.std.proofs.lemmas.List.{append-nil, flat_map_more, get_or-drop}
use Rattle.std.specs.List.{flat_map, AllByRecursion}
use Rattle.ed2k_frame.specs.declared.frame.Frame.{Frame}
use Rattle.ed2k_frame.specs.declared.fault.FrameFault.{FrameFault}
use Rattle.ed2k_frame.specs.declared.front.Front.{Front}
use Rattle.ed2k_frame.specs.declared.front.Front.TheVariants.{Partial, Whole, Faulty}
use Rattle.ed2k_frame.specs.Frame.{IsFrame, spell}
use Rattle.ed2k_frame.specs.Front.{IsFrameAt}
use Rattle.ed2k_frame.specs.Whole.{IsWhole, IsFront}
use Rattle.ed2k_frame.specs.Reading.{Reading}
use Rattle.ed2k_frame.specs.Streams.{Splits, IsEnd, Parts}
use Rattle.ed2k_frame.specs.Laws.{IsBytes, KeepSplits, EachStreamHasParts, PartsAreOne, GivenComesFirst}
use Rattle.ed2k_frame.proofs.Fronts.{partial_is_no_frame, fault_is_no_frame, partial_is_no_fault, one_fault, one_frame, front_there}
use Rattle.ed2k_frame.proofs.Heads.{whole_is_frame}

-- nothing was fed, and nothing given
pub splits_start : Splits [] [] []
splits_start = record { each = tt; joined = refl }

-- a piece goes to the rest
pub splits_feed : (stream : List ℕ) (given : List Frame) (rest piece : List ℕ) → Splits stream given rest → Splits (stream ++ piece) given (rest ++ piece)
splits_feed stream given rest piece split =
    let joined = ap (λ (t : List ℕ). t ++ piece) split.joined ∙ append_assoc (flat_map spell given) rest piece in
    record { each = split.each; joined = joined }

each_push : (fs : List Frame) (f : Frame) → AllByRecursion IsFrame fs → IsFrame f → AllByRecursion IsFrame (fs ++ f ∷ [])
each_push [] f each frame = (frame, tt)
each_push (g ∷ gs) f each frame = (each.0, each_push gs f each.1 frame)

-- a frame at the front of the rest is given
pub splits_next : (stream : List ℕ) (given : List Frame) (rest left : List ℕ) (frame : Frame) → Splits stream given rest → IsFrameAt frame rest left → Splits stream (given ++ frame ∷ []) left
splits_next stream given rest left frame split at =
    let spelled : flat_map spell given ++ spell frame ≡ flat_map spell (given ++ frame ∷ []) = flat_map_more spell [] given frame in
    let joined = split.joined ∙ ap (λ (t : List ℕ). flat_map spell given ++ t) at.spelled ∙ sym (append_assoc (flat_map spell given) (spell frame) left) ∙ ap (λ (t : List ℕ). t ++ left) spelled in
    record { each = each_push given frame split.each at.valid; joined = joined }

pub keep_splits : KeepSplits
keep_splits = record { start = splits_start; feed = splits_feed; next = splits_next }

-- at an end stands no frame
end_is_no_frame : (said : Option FrameFault) (f : Frame) (bytes rest : List ℕ) → IsEnd said bytes → IsFrameAt f bytes rest → ⊥
end_is_no_frame None f bytes rest ended at = partial_is_no_frame f bytes rest at ended
end_is_no_frame (Some fault) f bytes rest ended at = fault_is_no_frame f bytes rest fault at ended

-- the same bytes have one end
one_end : (bytes : List ℕ) (a b : Option FrameFault) → IsEnd a bytes → IsEnd b bytes → a ≡ b
one_end bytes None None x y = refl
one_end bytes None (Some fault) x y = absurd (partial_is_no_fault bytes fault x y)
one_end bytes (Some fault) None x y = absurd (partial_is_no_fault bytes fault y x)
one_end bytes (Some fault) (Some other) x y = ap Some (one_fault bytes fault other x y)

-- the first frame of a stream stands at its front
first_at : (f : Frame) (fs : List Frame) (stream rest : List ℕ) → IsFrame f → stream ≡ flat_map spell (f ∷ fs) ++ rest → IsFrameAt f stream (flat_map spell fs ++ rest)
first_at f fs stream rest frame e = record { valid = frame; spelled = e ∙ append_assoc (spell f) (flat_map spell fs) rest }

pub given_first : GivenComesFirst
given_first stream [] rest frames end given parts =
    (frames, refl, record { splits = record { each = parts.splits.each; joined = sym given.joined ∙ parts.splits.joined }; ended = parts.ended })
given_first stream (g ∷ gs) rest [] end given parts =
    absurd (end_is_no_frame end.said g stream _ (subst (λ (bs : List ℕ). IsEnd end.said bs) (sym parts.splits.joined) parts.ended)
    (first_at g gs stream rest given.each.0 given.joined))
given_first stream (g ∷ gs) rest (f ∷ fs) end given parts =
    let a = first_at g gs stream rest given.each.0 given.joined in
    let b = first_at f fs stream end.rest parts.splits.each.0 parts.splits.joined in
    let one = one_frame g f stream (flat_map spell gs ++ rest) (flat_map spell fs ++ end.rest) a b in
    let given' : Splits (flat_map spell gs ++ rest) gs rest = record { each = given.each.1; joined = refl } in
    let parts' : Parts (flat_map spell gs ++ rest) fs end = record { splits = record { each = parts.splits.each.1; joined = one.1 }; ended = parts.ended } in
    let (later, e, left) = given_first (flat_map spell gs ++ rest) gs rest fs end given' parts' in
    (later, ap (λ h. h ∷ fs) (sym one.0) ∙ ap (λ t. g ∷ t) e, left)

pub one_reading : PartsAreOne
one_reading stream frames others end other parts qarts =
    let (later, e, left) = given_first stream frames end.rest others other parts.splits qarts in
    none_left later e left
  where
    none_left : (later : List Frame) → others ≡ frames ++ later → Parts end.rest later other → (frames ≡ others) × (end ≡ other)
    none_left [] e left =
        let rests : end.rest ≡ other.rest = left.splits.joined in
        let saids : end.said ≡ other.said = one_end end.rest end.said other.said parts.ended (subst (λ (bs : List ℕ). IsEnd other.said bs) (sym rests) left.ended) in
        let by_rest : List ℕ → Reading = λ bs. record { rest = bs; said = end.said } in
        let by_said : Option FrameFault → Reading = λ s. record { rest = other.rest; said = s } in
        (sym (e ∙ append-nil frames), ap by_rest rests ∙ ap by_said saids)
    none_left (l ∷ ls) e left =
        absurd (end_is_no_frame end.said l end.rest _ parts.ended (first_at l ls end.rest other.rest left.splits.each.0 left.splits.joined))

-- a stream's whole frames, with what follows them
abbrev HasParts : List ℕ → Type 0
HasParts stream = (frames : List Frame) × (end : Reading) × Parts stream frames end

-- a frame in front of a stream with parts
frame_before : (f : Frame) (stream rest : List ℕ) → IsFrameAt f stream rest → HasParts rest → HasParts stream
frame_before f stream rest at (frames, end, parts) =
    let joined = at.spelled ∙ ap (λ (bs : List ℕ). spell f ++ bs) parts.splits.joined ∙ sym (append_assoc (spell f) (flat_map spell frames) end.rest) in
    (f ∷ frames, end, record { splits = record { each = (at.valid, parts.splits.each); joined = joined }; ended = parts.ended })

-- no whole frame at the front
end_there : (stream : List ℕ) (said : Option FrameFault) → IsEnd said stream → HasParts stream
end_there stream said ended =
    ([], record { rest = stream; said = said }, record { splits = record { each = tt; joined = refl }; ended = ended })

from_front : (stream : List ℕ) → IsBytes stream → (front : Front) → IsFront front stream → ((rest : List ℕ) → length rest < length stream → IsBytes rest → HasParts rest) → HasParts stream
from_front stream bytes Partial there shorter = end_there stream None there
from_front stream bytes (Faulty fault) there shorter = end_there stream (Some fault) there
from_front stream bytes (Whole n) there shorter =
    let rest : List ℕ = drop (n + 5) stream in
    let payload : List ℕ = take (n + 5 - 6) (drop 6 stream) in
    let f : Frame = record { protocol = get_or stream 0 0; opcode = get_or stream 5 0; payload = payload } in
    let at : IsFrameAt f stream rest = whole_is_frame stream n payload bytes there refl in
    let some = whole_is_some stream n there in
    let short : length rest < length stream = omega (arith, length-drop (n + 5) stream) in
    frame_before f stream rest at (shorter rest short (λ i. omega (arith, get_or-drop (n + 5) stream i 0, bytes (n + 5 + i))))
  where
    whole_is_some : (stream : List ℕ) (n : ℕ) → IsWhole n stream → 0 < length stream
    whole_is_some [] n whole = absurd whole
    whole_is_some (b ∷ bs) n whole = omega arith

-- a stream has no more frames than bytes
parts_within : (steps : ℕ) (stream : List ℕ) → length stream < steps → IsBytes stream → HasParts stream
parts_within zero stream h bytes = absurd (omega arith)
parts_within (suc steps) stream h bytes =
    let (front, there) = front_there stream in
    from_front stream bytes front there (λ rest short. parts_within steps rest (omega arith))

pub parts_there : EachStreamHasParts
parts_there stream bytes = parts_within (length stream + 1) stream (omega arith) bytes

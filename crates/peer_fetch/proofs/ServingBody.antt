-- The body at the filled positions, and full parts.
use Rattle.std.proofs.Common.{◌≡◌, ℕ, ◌+◌, ◌-◌, ◌*◌, ◌<◌, ◌≤◌, min, Bool, true, false, ◌||◌, List, [], ◌∷◌, ◌++◌, length, take, drop, get_or, Option, unwrap_or, refl, ap, sym, ◌∙◌, subst, arith, inl, inr, length-append, length-take, length-drop, ext_get_or, get_or-take, get_or-drop}
use Rattle.std.specs.Bool.{then_some}
use Rattle.std.specs.Option.{option_or}
use Rattle.std.proofs.lemmas.Bool.{both_ways, cases_Bool, cases_lt}
use Rattle.std.proofs.lemmas.List.{get_or_append_left, get_or-append_right}
use Rattle.ed2k_outside.specs.Crashes.{Torn}
use Rattle.ed2k_outside.specs.Files.{overwritten}
use Rattle.part_sizes.specs.Part.{part, data_parts, part_of, part_range}
use Rattle.part_sizes.specs.Span.{has}
use Rattle.part_sizes.specs.declared.part.TheConstants.{PART}
use Rattle.part_sizes.specs.declared.span.Span.{Span}
use Rattle.part_sizes.proofs.Laws.{between_has, has_between, has-part_of, part_of_exists}
use Rattle.reserve_core.specs.Events.{latest}
use Rattle.reserve_core.specs.Filled.{filled_by, is_filled, is_full}
use Rattle.reserve_core.specs.declared.event.Event.{Event}
use Rattle.reserve_core.specs.declared.event.Event.TheVariants.{Write}
use Rattle.reserve_core.proofs.Latest.{latest-push}
use Rattle.reserve_core.proofs.VerifiedFull.{full_has, full_of}

-- parts of which the same positions are filled are full alike

same_tests : (a b : Bool) → (a ≡ true → b ≡ true) → (b ≡ true → a ≡ true) → a ≡ b
same_tests true b there back = sym (there refl)
same_tests false true there back = back refl
same_tests false false there back = refl

pub full_same : (n : ℕ) (h g : List Event) (i : ℕ) → ((x : ℕ) → has (part_range n i) x ≡ true → is_filled n h x ≡ is_filled n g x) → is_full n h i ≡ is_full n g i
full_same n h g i same =
    same_tests (is_full n h i) (is_full n g i)
    (λ full. full_of n g i (λ x here. sym (same x here) ∙ full_has n h i x full here))
    (λ full. full_of n h i (λ x here. same x here ∙ full_has n g i x full here))

-- a part with a position that isn't filled isn't full
pub not_full : (n : ℕ) (h : List Event) (i x : ℕ) → has (part_range n i) x ≡ true → is_filled n h x ≡ false → is_full n h i ≡ false
not_full n h i x here empty =
    elim (cases_Bool (is_full n h i)) [
      | inl full ↦ absurd (both_ways (is_filled n h x) empty (full_has n h i x full here))
      | inr open_part ↦ open_part
    ]

-- what is filled after a write

fills_or : (b : Bool) (o : Option Bool) → unwrap_or (option_or (then_some b true) o) false ≡ (b || unwrap_or o false)
fills_or true o = refl
fills_or false o = refl

pub filled_push : (n : ℕ) (h : List Event) (p x : ℕ) (r : Span) → is_filled n (h ++ Write p r ∷ []) x ≡ (has r x || is_filled n h x)
filled_push n h p x r = ap (λ o. unwrap_or o false) (latest-push (filled_by n x) h (Write p r)) ∙ fills_or (has r x) (latest (filled_by n x) h)

pub filled_out : (n : ℕ) (h : List Event) (p x : ℕ) (r : Span) → has r x ≡ false → is_filled n (h ++ Write p r ∷ []) x ≡ is_filled n h x
filled_out n h p x r out = filled_push n h p x r ∙ ap (λ b. b || is_filled n h x) out

-- the body has the file's byte at each filled position
pub record BodyAgrees (n : ℕ) (file : List ℕ) (h : List Event) (body : List ℕ) : Type 0 where
  pub long : length body ≡ n
  pub same : (x : ℕ) → is_filled n h x ≡ true → get_or body x 0 ≡ get_or file x 0

length_overwritten : (body piece : List ℕ) (at : ℕ) → at + length piece ≤ length body → length (overwritten body at piece) ≡ length body
length_overwritten body piece at within =
    let a = length-append (take at body ++ piece) (drop (at + length piece) body) in
    let b = length-append (take at body) piece in
    let c = length-take at body in
    let d = length-drop (at + length piece) body in
    omega arith

-- a byte before the piece, one of it, one behind it
before_piece : (body piece : List ℕ) (at x : ℕ) → at + length piece ≤ length body → x < at → get_or (overwritten body at piece) x 0 ≡ get_or body x 0
before_piece body piece at x within below =
    let long = length-take at body in
    let joined = length-append (take at body) piece in
    get_or_append_left (take at body ++ piece) (drop (at + length piece) body) 0 x (omega arith)
    ∙ get_or_append_left (take at body) piece 0 x (omega arith)
    ∙ get_or-take at body x 0 below

in_piece : (body piece : List ℕ) (at x : ℕ) → at + length piece ≤ length body → at ≤ x → x < at + length piece → get_or (overwritten body at piece) x 0 ≡ get_or piece (x - at) 0
in_piece body piece at x within low high =
    let long : length (take at body) ≡ at = omega (arith, length-take at body) in
    let joined = length-append (take at body) piece in
    get_or_append_left (take at body ++ piece) (drop (at + length piece) body) 0 x (omega arith)
    ∙ get_or-append_right (take at body) piece at x 0 long low

behind_piece : (body piece : List ℕ) (at x : ℕ) → at + length piece ≤ length body → at + length piece ≤ x → get_or (overwritten body at piece) x 0 ≡ get_or body x 0
behind_piece body piece at x within low =
    let long : length (take at body ++ piece) ≡ at + length piece = omega (arith, length-take at body, length-append (take at body) piece) in
    let back : at + length piece + (x - (at + length piece)) ≡ x = omega arith in
    get_or-append_right (take at body ++ piece) (drop (at + length piece) body) (at + length piece) x 0 long low
    ∙ get_or-drop (at + length piece) body (x - (at + length piece)) 0
    ∙ ap (λ k. get_or body k 0) back

-- a piece of the file is laid over the body
pub record IsPieceOf (n : ℕ) (file : List ℕ) (at end : ℕ) (piece : List ℕ) : Type 0 where
  pub whole : length file ≡ n
  pub some : at < end
  pub within : end ≤ n
  pub is : piece ≡ take (end - at) (drop at file)

pub piece_length : (n : ℕ) (file : List ℕ) (at end : ℕ) (piece : List ℕ) → IsPieceOf n file at end piece → length piece ≡ end - at
piece_length n file at end piece of =
    let a = of.whole in let b = of.some in let c = of.within in
    ap length of.is ∙ omega (arith, length-take (end - at) (drop at file), length-drop at file)

file_byte : (n : ℕ) (file : List ℕ) (at end x : ℕ) (piece : List ℕ) → IsPieceOf n file at end piece → at ≤ x → x < end → get_or piece (x - at) 0 ≡ get_or file x 0
file_byte n file at end x piece of low high =
    let back : at + (x - at) ≡ x = omega arith in
    ap (λ (bytes : List ℕ). get_or bytes (x - at) 0) of.is
    ∙ get_or-take (end - at) (drop at file) (x - at) 0 (omega arith)
    ∙ get_or-drop at file (x - at) 0
    ∙ ap (λ k. get_or file k 0) back

pub agrees_written : (n : ℕ) (file : List ℕ) (h : List Event) (body : List ℕ) (p at end : ℕ) (piece : List ℕ) (r : Span) → IsPieceOf n file at end piece → r ≡ record { s = at; e = end } → BodyAgrees n file h body
    → BodyAgrees n file (h ++ Write p r ∷ []) (overwritten body at piece)
agrees_written n file h body p at end piece r of is agrees =
    let sized = piece_length n file at end piece of in
    let some = of.some in
    let within = of.within in
    let long = agrees.long in
    let fits : at + length piece ≤ length body = omega arith in
    record {
      long = length_overwritten body piece at fits ∙ agrees.long;
      same = λ x filled. elim (cases_lt x at) [
        | inl before ↦ before_piece body piece at x fits before ∙ agrees.same x (was x (outside x (λ here. let ends = between_has r x here in let s = ap (λ (q : Span). q.s) is in omega arith)) filled)
        | inr low ↦ elim (cases_lt x end) [
          | inl high ↦ in_piece body piece at x fits low (omega arith) ∙ file_byte n file at end x piece of low high
          | inr behind ↦ behind_piece body piece at x fits (omega arith) ∙ agrees.same x (was x (outside x (λ here. let ends = between_has r x here in let e = ap (λ (q : Span). q.e) is in omega arith)) filled)
        ]
      ];
    }
  where
    outside : (x : ℕ) → (has r x ≡ true → ⊥) → has r x ≡ false
    outside x never = elim (cases_Bool (has r x)) [ inl here ↦ absurd (never here) | inr out ↦ out ]

    was : (x : ℕ) → has r x ≡ false → is_filled n (h ++ Write p r ∷ []) x ≡ true → is_filled n h x ≡ true
    was x out filled = sym (filled_out n h p x r out) ∙ filled

-- a write that failed tears only bytes that are not filled

torn_length : (at size : ℕ) (old new : List ℕ) → at + size ≤ length old → Torn at size old new → length new ≡ length old
torn_length at size old new within torn = let a = torn.no_shorter in let b = torn.no_longer in omega arith

torn_before : (at size : ℕ) (old new : List ℕ) (x : ℕ) → Torn at size old new → x < at → get_or new x 0 ≡ get_or old x 0
torn_before at size old new x torn below = sym (get_or-take at new x 0 below) ∙ ap (λ (bytes : List ℕ). get_or bytes x 0) torn.before ∙ get_or-take at old x 0 below

torn_behind : (at size : ℕ) (old new : List ℕ) (x : ℕ) → Torn at size old new → at + size ≤ x → get_or new x 0 ≡ get_or old x 0
torn_behind at size old new x torn low =
    let back : at + size + (x - (at + size)) ≡ x = omega arith in
    ap (λ k. get_or new k 0) (sym back)
    ∙ sym (get_or-drop (at + size) new (x - (at + size)) 0)
    ∙ ap (λ (bytes : List ℕ). get_or bytes (x - (at + size)) 0) torn.after
    ∙ get_or-drop (at + size) old (x - (at + size)) 0
    ∙ ap (λ k. get_or old k 0) back

pub agrees_torn : (n : ℕ) (file : List ℕ) (h : List Event) (body mid : List ℕ) (at size : ℕ) → at + size ≤ n → ((x : ℕ) → at ≤ x → x < at + size → is_filled n h x ≡ false) → Torn at size body mid → BodyAgrees n file h body → BodyAgrees n file h mid
agrees_torn n file h body mid at size within free torn agrees =
    let long = agrees.long in
    let fits : at + size ≤ length body = omega arith in
    record {
      long = torn_length at size body mid fits torn ∙ agrees.long;
      same = λ x filled. elim (cases_lt x at) [
        | inl before ↦ torn_before at size body mid x torn before ∙ agrees.same x filled
        | inr low ↦ elim (cases_lt x (at + size)) [
          | inl high ↦ absurd (both_ways (is_filled n h x) (free x low high) filled)
          | inr behind ↦ torn_behind at size body mid x torn (omega arith) ∙ agrees.same x filled
        ]
      ];
    }

-- the file agrees with itself
pub agrees_file : (n : ℕ) (file : List ℕ) (h : List Event) (body : List ℕ) → length file ≡ n → body ≡ file → BodyAgrees n file h body
agrees_file n file h body whole is = record { long = ap length is ∙ whole; same = λ x filled. ap (λ (bytes : List ℕ). get_or bytes x 0) is }

-- nothing of it changes where nothing more is filled
pub agrees_fewer : (n : ℕ) (file : List ℕ) (h g : List Event) (body : List ℕ) → ((x : ℕ) → is_filled n g x ≡ true → is_filled n h x ≡ true) → BodyAgrees n file h body → BodyAgrees n file g body
agrees_fewer n file h g body fewer agrees = record { long = agrees.long; same = λ x filled. agrees.same x (fewer x filled) }

pub agrees_same : (n : ℕ) (file : List ℕ) (h g : List Event) (body : List ℕ) → ((x : ℕ) → is_filled n g x ≡ is_filled n h x) → BodyAgrees n file h body → BodyAgrees n file g body
agrees_same n file h g body same agrees = record { long = agrees.long; same = λ x filled. agrees.same x (sym (same x) ∙ filled) }

-- a full part has the file's bytes, and a body that is filled is the file

within_part : (n i k m : ℕ) → m ≡ min PART (n - i * PART) → k < m → (i * PART ≤ i * PART + k) × (i * PART + k < min ((i + 1) * PART) n)
within_part n i k m is below = (omega arith, omega arith)

part_length : (n i : ℕ) (bytes : List ℕ) → length bytes ≡ n → length (part bytes i) ≡ min PART (n - i * PART)
part_length n i bytes long = length-take PART (drop (i * PART) bytes) ∙ ap (min PART) (length-drop (i * PART) bytes ∙ ap (λ k. k - i * PART) long)

part_byte : (bytes : List ℕ) (i k : ℕ) → k < PART → get_or (part bytes i) k 0 ≡ get_or bytes (i * PART + k) 0
part_byte bytes i k inside = get_or-take PART (drop (i * PART) bytes) k 0 inside ∙ get_or-drop (i * PART) bytes k 0

below_part : (k m : ℕ) → k < min PART m → k < PART
below_part k m below = omega arith

pub part_agrees : (n : ℕ) (file : List ℕ) (h : List Event) (body : List ℕ) (i : ℕ) → length file ≡ n → BodyAgrees n file h body → is_full n h i ≡ true → part body i ≡ part file i
part_agrees n file h body i whole agrees full =
    let long = part_length n i body agrees.long in
    ext_get_or 0 (part body i) (part file i) (long ∙ sym (part_length n i file whole))
    (λ k below.
    let at = within_part n i k (length (part body i)) long below in
    let inside = below_part k (n - i * PART) (subst (λ (m : ℕ). k < m) long below) in
    part_byte body i k inside
    ∙ agrees.same (i * PART + k) (full_has n h i (i * PART + k) full (has_between (part_range n i) (i * PART + k) at.0 at.1))
    ∙ sym (part_byte file i k inside))

pub body_is : (n : ℕ) (file : List ℕ) (h : List Event) (body : List ℕ) → length file ≡ n → BodyAgrees n file h body → ((x : ℕ) → x < n → is_filled n h x ≡ true) → body ≡ file
body_is n file h body whole agrees filled =
    let long = agrees.long in
    ext_get_or 0 body file (omega arith) (λ x below. agrees.same x (filled x (omega arith)))

-- where each part is full, all positions are filled
pub filled_parts : (n : ℕ) (h : List Event) → ((i : ℕ) → i < data_parts n → is_full n h i ≡ true) → (x : ℕ) → x < n → is_filled n h x ≡ true
filled_parts n h full x within = full_has n h (part_of x) x (full (part_of x) (part_of_exists n x within)) (has-part_of n x within)

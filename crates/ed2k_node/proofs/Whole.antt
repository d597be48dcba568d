-- A body that fits a log in which every part is verified is the file.
use Rattle.std.proofs.Common.{◌∷◌, ◌≡◌, ◌∙◌, refl, sym, ap, subst, inl, inr, ℕ, ◌<◌, ◌≤◌, Bool, true, false, nat_lt, List, [], length, take, Option, Some, None, slice_get, IfSome, arith}
use Rattle.std.proofs.lemmas.Bool.Decides.{nat_tests}
use Rattle.std.proofs.lemmas.List.{take_all}
use Rattle.std.proofs.lemmas.Option.{get_or_from_slice_get}
use Rattle.std.proofs.lemmas.Slice.Eq.{bytes_eq-Decides}
use Rattle.ed2k_link.proofs.Letters.{table_at}
use Rattle.ed2k_outside.specs.Files.{Files}
use Rattle.md4_hash.specs.Md4.{md4}
use Rattle.part_hashset.specs.HashSet.{ed2k, ValidSet}
use Rattle.part_hashset.specs.declared.aim.Aim.{Aim}
use Rattle.part_hashset.proofs.SetLemmas.{members_give_hash}
use Rattle.part_sizes.specs.Part.{part, IsSize, data_parts}
use Rattle.part_sizes.specs.declared.part.TheConstants.{PART}
use Rattle.part_sizes.proofs.Laws.{part_of_exists}
use Rattle.part_store.specs.Body.{AreTrue, BeganTrue, BodyFits, Fits}
use Rattle.reserve_core.specs.Events.{events}
use Rattle.reserve_core.specs.Legal.{AreLegal, IsLegal}
use Rattle.part_hashset.specs.Goals.{goal_in, passes}
use Rattle.reserve_core.specs.Verdicts.{goal, is_verified, kept_set, verdict_of}
use Rattle.reserve_core.specs.declared.event.Entry.{Entry}
use Rattle.reserve_core.specs.declared.event.Event.{Event}
use Rattle.reserve_core.specs.declared.event.Event.TheVariants.{Opened}
use Rattle.peer_fetch.specs.Fetches.{Grows}
use Rattle.peer_fetch.specs.Serves.{nothing}
use Rattle.ed2k_node.specs.Left.{IsComplete, IsFileOf}
use Rattle.ed2k_node.proofs.KeptSet.{IsNoneOrValid, kept_is_valid}

-- a verdict that passes is the digest that is wanted
passed : (wanted found : Option (List ℕ)) → passes wanted found ≡ true → (d : List ℕ) × (found ≡ Some d) × (wanted ≡ Some d)
passed wanted None pass = absurd (cc)
passed None (Some d) pass = absurd (cc)
passed (Some w) (Some d) pass = (d, refl, ap (λ (x : List ℕ). Some x) (sym ((bytes_eq-Decides d w).0 pass)))

-- the digest that a verified part is to have is the MD4 of its bytes
judged : (aim : Aim) (h : List Event) (body : List ℕ) (i : ℕ) → AreTrue h body → is_verified aim h i ≡ true → goal aim h i ≡ Some (md4 (part body i))
judged aim h body i right verified =
    let found = passed (goal aim h i) (verdict_of h i) verified in
    found.2 ∙ ap (λ (x : List ℕ). Some x) (right i found.0 found.1)

unsome : (a b : List ℕ) → Some a ≡ Some b → a ≡ b
unsome a b same = cc

small : (aim : Aim) (set : List (List ℕ)) (i : ℕ) → aim.size < PART → goal_in aim set i ≡ Some aim.hash
small aim set i below = let test : nat_lt aim.size PART ≡ true = grind (arith, nat_tests) in rw test refl

large : (aim : Aim) (set : List (List ℕ)) (i : ℕ) → PART ≤ aim.size → goal_in aim set i ≡ slice_get set i
large aim set i above = let test : nat_lt aim.size PART ≡ false = grind (arith, nat_tests) in rw test refl

one_part : (body : List ℕ) → length body < PART → ed2k body ≡ md4 (part body 0)
one_part body below =
    let test : nat_lt (length body) PART ≡ true = grind (arith, nat_tests) in
    let all : take PART body ≡ body = take_all PART body (omega arith) in
    rw test (ap md4 (sym all))

no_member : (i : ℕ) (d : List ℕ) → slice_get [] i ≡ Some d → ⊥
no_member i d is = cc

of_set : (aim : Aim) (set : List (List ℕ)) (body : List ℕ) → PART ≤ aim.size → 0 < data_parts aim.size → length body ≡ aim.size
    → IsNoneOrValid aim set → ((i : ℕ) → i < data_parts aim.size → slice_get set i ≡ Some (md4 (part body i))) → ed2k body ≡ aim.hash
of_set aim set body above some sized valid members = elim valid [
  | inl none ↦ absurd (no_member 0 (md4 (part body 0)) (subst (λ (s : List (List ℕ)). slice_get s 0 ≡ Some (md4 (part body 0))) none (members 0 some)))
  | inr whole ↦ members_give_hash aim.hash body set (rw sized above) (subst (λ (n : ℕ). ValidSet n aim.hash set) (sym sized) whole)
      (λ i below. get_or_from_slice_get set i (md4 (part body i)) [] (members i (subst (λ (n : ℕ). i < data_parts n) sized below)))
]

by_size : (aim : Aim) (h : List Event) (body : List ℕ) (below : Bool) → nat_lt aim.size PART ≡ below → IsSize aim.size → AreLegal aim h → length body ≡ aim.size → AreTrue h body
    → ((i : ℕ) → i < data_parts aim.size → is_verified aim h i ≡ true) → ed2k body ≡ aim.hash
by_size aim h body true test size legal sized right each =
    let low : aim.size < PART = grind (arith, nat_tests) in
    let some : 0 < data_parts aim.size = omega (arith, part_of_exists aim.size 0 (omega (arith, size))) in
    let same = unsome aim.hash (md4 (part body 0)) (sym (small aim (kept_set h) 0 low) ∙ judged aim h body 0 right (each 0 some)) in
    one_part body (rw sized low) ∙ sym same
by_size aim h body false test size legal sized right each =
    let high : PART ≤ aim.size = grind (arith, nat_tests) in
    let some : 0 < data_parts aim.size = omega (arith, part_of_exists aim.size 0 (omega (arith, size))) in
    of_set aim (kept_set h) body high some sized (kept_is_valid aim h legal)
    (λ i within. sym (large aim (kept_set h) i high) ∙ judged aim h body i right (each i within))

pub is_file : (aim : Aim) (log : List Entry) (first : Option (List ℕ)) (body : List ℕ) → IsSize aim.size → IsLegal aim log → Fits aim (events log) first body → BeganTrue (events log) first → IsComplete aim (events log) → IsFileOf aim body
is_file aim log first body size legal fits began all = record {
  size = fits.sized;
  hash = by_size aim (events log) body (nat_lt aim.size PART) refl size legal.events fits.sized (fits.verdicts began)
      (λ i within. table_at (is_verified aim (events log)) (data_parts aim.size) all i within);
}

pub is_file_told : (aim : Aim) (log : List Entry) (first : Option (List ℕ)) (files : Option Files) → IsSize aim.size → IsLegal aim log → BodyFits aim log first files → BeganTrue (events log) first → IsComplete aim (events log)
    → IfSome files (λ files. IsFileOf aim files.body)
is_file_told aim log first None size legal fits began all = tt
is_file_told aim log first (Some files) size legal fits began all = is_file aim log first files.body size legal fits began all

-- a store that is new began with no verdict
pub began_new : (h : List Event) (first : Option (List ℕ)) → Grows (Opened nothing ∷ []) h → BeganTrue h first
began_new h None grows = tt
began_new h (Some body) (more, is) = subst (λ (l : List Event). AreTrue (take 1 l) body) (sym is) (λ i d none. absurd (cc))

-- and its body fits whatever its bytes were before
pub fits_new : (aim : Aim) (log : List Entry) (first other : Option (List ℕ)) (files : Option Files) → Grows (Opened nothing ∷ []) (events log) → BodyFits aim log first files → BodyFits aim log other files
fits_new aim log first other None grows fits = tt
fits_new aim log first other (Some files) grows fits = record {
  sized = fits.sized;
  verdicts = λ _. fits.verdicts (began_new (events log) first grows);
}

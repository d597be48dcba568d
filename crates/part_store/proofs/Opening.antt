-- A start that shows the state of a legal log file is one that a download may begin with.
use Rattle.std.proofs.Common.{◌≡◌, ◌⊎◌, ℕ, ◌+◌, ◌<◌, ◌≤◌, Bool, true, false, ◌==◌, List, [], ◌∷◌, Option, Some, None, find, if◌then◌else◌, refl, sym, ◌∙◌, subst, arith}
use Rattle.std.specs.Option.{option_map}
use Rattle.std.proofs.lemmas.Bool.Decides.{nat_tests}
use Rattle.byte_ranges.specs.Spans.{IsApart}
use Rattle.journal_core.specs.States.{State}
use Rattle.part_hashset.specs.Goals.{digest_in}
use Rattle.part_hashset.specs.HashSet.{ValidSet}
use Rattle.part_hashset.specs.declared.aim.Aim.{Aim}
use Rattle.part_sizes.specs.Part.{data_parts}
use Rattle.part_sizes.specs.declared.part.TheConstants.{PART}
use Rattle.part_sizes.specs.declared.small_lists.Pair.{Pair}
use Rattle.part_store.proofs.Beginning.{Shows}
use Rattle.part_store.proofs.GoodStates.{IsGood}
use Rattle.reserve_core.specs.Filled.{is_full}
use Rattle.reserve_core.specs.Legal.{AreVerdicts, IsState}
use Rattle.reserve_core.specs.declared.event.Event.{Event}
use Rattle.reserve_core.specs.declared.event.Event.TheVariants.{Opened}
use Rattle.reserve_core.specs.declared.event.Opened.{Opened as Start}
use Rattle.reserve_core.proofs.VerifiedFull.{full_of}

-- the pairs ascend by part from a number on
abbrev pub Ascend : ℕ → List Pair → Type 0
Ascend low [] = Unit {0}
Ascend low (pair ∷ pairs) = (low ≤ pair.part) × Ascend (pair.part + 1) pairs

found-first : (test : Bool) (pair : Pair) (rest : Option Pair) → test ≡ true → option_map (λ (p : Pair). p.digest) (if test then Some pair else rest) ≡ Some pair.digest
found-first true pair rest is = refl
found-first false pair rest is = absurd (cc)

found-behind : (test : Bool) (pair : Pair) (rest : Option Pair) → test ≡ false → option_map (λ (p : Pair). p.digest) (if test then Some pair else rest) ≡ option_map (λ (p : Pair). p.digest) rest
found-behind true pair rest is = absurd (cc)
found-behind false pair rest is = refl

own-digest : (pair : Pair) (pairs : List Pair) → digest_in (pair ∷ pairs) pair.part ≡ Some pair.digest
own-digest pair pairs = let test : (pair.part == pair.part) ≡ true = grind (arith, nat_tests) in found-first (pair.part == pair.part) pair (find (λ (p : Pair). p.part == pair.part) pairs) test

later-digest : (pair : Pair) (pairs : List Pair) (i : ℕ) → pair.part + 1 ≤ i → digest_in (pair ∷ pairs) i ≡ digest_in pairs i
later-digest pair pairs i above = let test : (pair.part == i) ≡ false = grind (arith, nat_tests) in found-behind (pair.part == i) pair (find (λ (p : Pair). p.part == i) pairs) test

pairs-stand : (n : ℕ) (h : List Event) (low : ℕ) (pairs : List Pair) → Ascend low pairs
    → ((i : ℕ) (d : List ℕ) → low ≤ i → digest_in pairs i ≡ Some d → (i < data_parts n) × (is_full n h i ≡ true)) → AreVerdicts n h low pairs
pairs-stand n h low [] ascend each = tt
pairs-stand n h low (pair ∷ pairs) ascend each =
    let own = each pair.part pair.digest ascend.0 (own-digest pair pairs) in
    (ascend.0, own.0, own.1, pairs-stand n h (pair.part + 1) pairs ascend.1 (λ i d above is. each i d (omega (arith, above, ascend.0)) (later-digest pair pairs i above ∙ is)))

no-pairs : (pairs : List Pair) → ((i : ℕ) → digest_in pairs i ≡ None) → pairs ≡ []
no-pairs [] none = refl
no-pairs (pair ∷ pairs) none = absurd (let some : None ≡ Some pair.digest = sym (none pair.part) ∙ own-digest pair pairs in cc)

pub opens : (aim : Aim) (s : State) (o : Start) → IsGood aim s → Shows s o → IsApart 0 (aim.size + 1) o.filled → Ascend 0 o.verdicts → IsState aim o
opens aim s o good shows apart ascend = record {
  set = subst (λ (q : List (List ℕ)). (q ≡ []) ⊎ ((PART ≤ aim.size) × ValidSet aim.size aim.hash q)) (sym shows.set) good.set;
  filled = apart;
  verdicts = pairs-stand aim.size (Opened o ∷ []) 0 o.verdicts ascend (λ i d above is.
      let judged = sym (shows.verdict i) ∙ is in
      (good.exist i d judged, full_of aim.size (Opened o ∷ []) i (λ x inside. shows.filled x ∙ good.full i x d judged inside)));
  unjudged = λ large none. no-pairs o.verdicts (λ i. shows.verdict i ∙ good.unjudged large (sym shows.set ∙ none) i);
}

-- How many positions a list of apart spans has.
use Rattle.std.proofs.Common.{◌≡◌, ℕ, zero, suc, ◌+◌, ◌-◌, ◌<◌, ◌≤◌, true, false, nat_eq, List, [], ◌∷◌, ◌++◌, length, sum_by, refl, sym, ◌∙◌, arith}
use Rattle.std.proofs.lemmas.Bool.Decides.{nat_tests}
use Rattle.std.proofs.lemmas.List.Concat.{length-flat_map}
use Rattle.std.proofs.lemmas.List.Sums.{sum_by-cons}
use Rattle.std.specs.Cmp.{nat_cmp_total}
use Rattle.std.specs.FinSet.{contains, len, from_list, contains-from_list_nat, len-empty, len-insert}
use Rattle.std.specs.List.{list_any, flat_map, range_with_len}
use Rattle.std.specs.Ordering.{nat_cmp}
use Rattle.part_sizes.specs.declared.span.Span.{Span}
use Rattle.part_sizes.specs.Span.{positions}
use Rattle.part_sizes.proofs.Positions.{length-positions}
use Rattle.byte_ranges.specs.Spans.{IsApart, set_of, total}
use Rattle.byte_ranges.proofs.Apart.{apart_wider, each_below}
use Rattle.byte_ranges.proofs.Edits.{any_ended}
use Rattle.byte_ranges.proofs.Members.{contains-set_of}

-- each number is above those before it, and at or above the first
abbrev Ascends : ℕ → List ℕ → Type 0
Ascends low [] = Unit {0}
Ascends low (k ∷ ks) = (low ≤ k) × Ascends (k + 1) ks

absent : (low k : ℕ) (ks : List ℕ) → k < low → Ascends low ks → list_any (λ y. nat_eq y k) ks ≡ false
absent low k [] below h = refl
absent low k (j ∷ ks) below h =
    let other : nat_eq j k ≡ false = grind (arith, nat_tests) in
    rw other (absent (j + 1) k ks (omega arith) h.1)

len-ascending : (low : ℕ) (ks : List ℕ) → Ascends low ks → len (from_list {R = nat_cmp} ks) ≡ length ks
len-ascending low [] h = len-empty nat_cmp
len-ascending low (k ∷ ks) h =
    let new : contains (from_list {R = nat_cmp} ks) k ≡ false = contains-from_list_nat ks k ∙ absent (k + 1) k ks (omega arith) h.1 in
    let rest = len-ascending (k + 1) ks h.1 in
    len-insert nat_cmp_total (from_list ks) k ∙ rw new (omega (arith, rest))

ascends_wider : (low low' : ℕ) (ks : List ℕ) → low' ≤ low → Ascends low ks → Ascends low' ks
ascends_wider low low' [] below h = tt
ascends_wider low low' (k ∷ ks) below h = (omega arith, h.1)

ascends_range : (from n : ℕ) (ks : List ℕ) → Ascends (from + n) ks → Ascends from (range_with_len from n ++ ks)
ascends_range from zero ks h = ascends_wider (from + zero) from ks (omega arith) h
ascends_range from (suc n) ks h =
    (omega arith, ascends_range (from + 1) n ks (ascends_wider (from + suc n) (from + 1 + n) ks (omega arith) h))

ascends_spans : (low high : ℕ) (spans : List Span) → IsApart low high spans → Ascends low (flat_map positions spans)
unfolding positions
ascends_spans low high [] h = tt
ascends_spans low high (span ∷ spans) h =
    let rest = ascends_spans (span.e + 1) high spans h.3 in
    ascends_wider span.s low _ h.0 (ascends_range span.s (span.e - span.s) (flat_map positions spans) (ascends_wider (span.e + 1) (span.s + (span.e - span.s)) _ (omega (arith, h.1)) rest))

lengths : (spans : List Span) → sum_by (λ span. length (positions span)) spans ≡ sum_by (λ span. span.e - span.s) spans
lengths spans = simp length-positions

pub len-set_of : (high : ℕ) (spans : List Span) → IsApart 0 high spans → len (set_of spans) ≡ total spans
unfolding set_of
len-set_of high spans h =
    len-ascending 0 (flat_map positions spans) (ascends_spans 0 high spans h) ∙ length-flat_map positions spans ∙ lengths spans

pub total_below : (low high : ℕ) (spans : List Span) → low < high → IsApart low high spans → low + total spans < high
total_below low high [] within h = omega arith
total_below low high (span ∷ spans) within h =
    let rest = total_below span.e high spans h.2 (apart_wider (span.e + 1) span.e high high spans (omega arith) (omega arith) h.3) in
    omega (arith, rest, h.0, h.1, sum_by-cons (λ (q : Span). q.e - q.s) span spans)

-- the positions of the spans lie below their end
pub set_of_below : (high : ℕ) (spans : List Span) (x : ℕ) → IsApart 0 (high + 1) spans → contains (set_of spans) x ≡ true → x < high
set_of_below high spans x h held =
    let past = any_ended spans (high + 1) x (each_below 0 (high + 1) spans h) (sym (contains-set_of spans x) ∙ held) in
    omega (arith, past)

-- What is kept while the records of a log are folded.
use Rattle.std.proofs.Common.{◌≡◌, ℕ, zero, suc, ◌+◌, ◌<◌, ◌≤◌, Bool, true, false, not, ◌&&◌, ◌||◌, nat_lt, List, [], ◌∷◌, length, get_or, refl, sym, ap, ◌∙◌, subst, inl, inr, arith, Option, Some, None, MatchOption, find, is_some, is_none, if◌then◌else◌}
use Rattle.std.specs.FinSet.{FinSet, contains, difference}
use Rattle.std.specs.Ordering.{nat_cmp}
use Rattle.std.proofs.lemmas.Bool.{cases_Bool, cases_eq}
use Rattle.std.proofs.lemmas.Bool.Decides.{nat_tests}
use Rattle.byte_ranges.specs.RangeSet.{Covers, IsFirstOut, span_set}
use Rattle.byte_ranges.specs.Spans.{IsApart}
use Rattle.byte_ranges.proofs.Members.{contains-difference_span}
use Rattle.part_sizes.specs.Block.{block_of, block_range}
use Rattle.part_sizes.specs.Part.{part_of, part_range}
use Rattle.part_sizes.specs.Span.{has, positions}
use Rattle.part_sizes.specs.declared.span.Span.{Span}
use Rattle.part_sizes.proofs.Laws.{block_of_alone, block_within, has-block_of, part_of_alone, part_within}
use Rattle.part_sizes.proofs.Positions.{find-positions_some, find-positions_none}

pub apart-at : (low high : ℕ) (spans : List Span) (k : ℕ) (d : Span) → IsApart low high spans → k < length spans → ((get_or spans k d).s ≤ (get_or spans k d).e) × ((get_or spans k d).e < high)
apart-at low high [] k d apart below = absurd (omega arith)
apart-at low high (span ∷ spans) zero d apart below = (omega (arith, apart.1), apart.2)
apart-at low high (span ∷ spans) (suc k) d apart below = apart-at (span.e + 1) high spans k d apart.3 (omega arith)

pub or-or : (a b c : Bool) → ((a || b) || c) ≡ (a || (b || c))
or-or true b c = refl
or-or false b c = refl

-- the first position that the set does not have is the first that does not pass
pub is-first : (result : Option ℕ) (span : Span) (set : FinSet nat_cmp) → MatchOption result (Covers set span) (λ x. IsFirstOut set span x) → result ≡ find (λ x. not (contains set x)) (positions span)
is-first None span set all =
    sym (find-positions_none (λ x. not (contains set x)) span (λ y here. ap not (all y here)))
is-first (Some x) span set out =
    sym (find-positions_some (λ x. not (contains set x)) span x out.here (ap not out.out) (λ y above below. ap not (out.before y above below)))

and-not : (a b : Bool) → (a && not b) ≡ (if b then false else a)
and-not true true = refl
and-not true false = refl
and-not false true = refl
and-not false false = refl

pub taken : (set : FinSet nat_cmp) (span : Span) (x : ℕ) → contains (difference set (span_set span)) x ≡ (if has span x then false else contains set x)
taken set span x = contains-difference_span set span x ∙ and-not (contains set x) (has span x)

-- a block has the positions of its part whose block it is
in-block : (n i k x : ℕ) → has (part_range n i) x ≡ true → block_of x ≡ k → has (block_range n i k) x ≡ true
in-block n i k x here is =
    let part : part_of x ≡ i = part_of_alone n i x here in
    subst (λ (p : ℕ). has (block_range n p k) x ≡ true) part (subst (λ (b : ℕ). has (block_range n (part_of x) b) x ≡ true) is (has-block_of n x (part_within n i x here)))

pub blocks-taken : (n i k : ℕ) (kept : List Bool) (x : ℕ) (was next cur : Bool) → get_or kept k false ≡ false
    → next ≡ (if has (block_range n i k) x then false else cur)
    → cur ≡ (if has (part_range n i) x && (nat_lt (block_of x) k && not (get_or kept (block_of x) false)) then false else was)
    → next ≡ (if has (part_range n i) x && (nat_lt (block_of x) (k + 1) && not (get_or kept (block_of x) false)) then false else was)
blocks-taken n i k kept x was next cur unkept is before = elim (cases_eq (block_of x) k) [
  | inl here ↦
      let bit : get_or kept (block_of x) false ≡ false = ap (λ (b : ℕ). get_or kept b false) here ∙ unkept in
      let lt : nat_lt (block_of x) k ≡ false = grind (arith, nat_tests) in
      let more : nat_lt (block_of x) (k + 1) ≡ true = grind (arith, nat_tests) in
      elim (cases_Bool (has (part_range n i) x)) [
        | inl part ↦ let block = in-block n i k x part here in is ∙ ap (λ (b : Bool). if b then false else cur) block ∙ rw (part, more, bit) refl
        | inr out ↦
            let block : has (block_range n i k) x ≡ false = elim (cases_Bool (has (block_range n i k) x)) [ inl in_it ↦ absurd (let clash : true ≡ false = sym (block_within n i k x in_it) ∙ out in cc) | inr beside ↦ beside ] in
            is ∙ ap (λ (b : Bool). if b then false else cur) block ∙ before ∙ rw out refl
      ]
  | inr other ↦
      let block : has (block_range n i k) x ≡ false = elim (cases_Bool (has (block_range n i k) x)) [ inl in_it ↦ absurd (other (block_of_alone n i k x in_it)) | inr beside ↦ beside ] in
      let same : nat_lt (block_of x) k ≡ nat_lt (block_of x) (k + 1) = grind (arith, nat_tests) in
      is ∙ ap (λ (b : Bool). if b then false else cur) block ∙ before ∙ ap (λ (b : Bool). if has (part_range n i) x && (b && not (get_or kept (block_of x) false)) then false else was) same
]

pub blocks-kept : (n i k : ℕ) (kept : List Bool) (x : ℕ) (was cur : Bool) → get_or kept k false ≡ true
    → cur ≡ (if has (part_range n i) x && (nat_lt (block_of x) k && not (get_or kept (block_of x) false)) then false else was)
    → cur ≡ (if has (part_range n i) x && (nat_lt (block_of x) (k + 1) && not (get_or kept (block_of x) false)) then false else was)
blocks-kept n i k kept x was cur shut before = elim (cases_eq (block_of x) k) [
  | inl here ↦
      let bit : not (get_or kept (block_of x) false) ≡ false = ap not (ap (λ (b : ℕ). get_or kept b false) here ∙ shut) in
      let lt : nat_lt (block_of x) k ≡ false = grind (arith, nat_tests) in
      let more : nat_lt (block_of x) (k + 1) ≡ true = grind (arith, nat_tests) in
      before ∙ ap (λ (b : Bool). if has (part_range n i) x && (b && not (get_or kept (block_of x) false)) then false else was) lt
      ∙ sym (ap (λ (b : Bool). if has (part_range n i) x && (b && not (get_or kept (block_of x) false)) then false else was) more ∙ ap (λ (b : Bool). if has (part_range n i) x && b then false else was) bit)
  | inr other ↦
      let same : nat_lt (block_of x) k ≡ nat_lt (block_of x) (k + 1) = grind (arith, nat_tests) in
      before ∙ ap (λ (b : Bool). if has (part_range n i) x && (b && not (get_or kept (block_of x) false)) then false else was) same
]

pub none-is : (o : Option ℕ) (b : Bool) → not b ≡ is_some o → b ≡ is_none o
none-is None true is = refl
none-is None false is = sym is
none-is (Some x) true is = sym is
none-is (Some x) false is = refl

-- The positions of a span as a list: membership, length, and the first that passes a test.
use Rattle.std.proofs.Common.{◌≡◌, ℕ, zero, suc, ◌+◌, ◌-◌, ◌<◌, ◌≤◌, Bool, true, false, IsTrue, nat_le, nat_lt, nat_eq, ◌&&◌, ◌||◌, Some, None, find, length, refl, ap, ◌∙◌, arith, sym, subst, inl, inr}
use Rattle.std.specs.List.{list_any, range_with_len}
use Rattle.std.proofs.lemmas.Bool.{cases_eq}
use Rattle.std.proofs.lemmas.Bool.Decides.{nat_tests}
use Rattle.std.proofs.lemmas.List.FromFn.{length-range_with_len}
use Rattle.part_sizes.specs.declared.span.Span.{Span}
use Rattle.part_sizes.specs.Span.{has, positions}
use Rattle.part_sizes.proofs.Laws.{has_between, between_has}

any-range : (from n x : ℕ) → list_any (λ y. nat_eq y x) (range_with_len from n) ≡ (nat_le from x && nat_lt x (from + n))
any-range from zero x = grind (arith, nat_tests)
any-range from (suc n) x =
    ap (λ b. nat_eq from x || b) (any-range (from + 1) n x) ∙ ends from n x
  where
    ends : (from n x : ℕ) → (nat_eq from x || (nat_le (from + 1) x && nat_lt x (from + 1 + n))) ≡ (nat_le from x && nat_lt x (from + suc n))
    ends from n x = grind (arith, nat_tests)

-- a position is in the list exactly where it lies in the span
pub any-positions : (span : Span) (x : ℕ) → list_any (λ y. nat_eq y x) (positions span) ≡ has span x
unfolding positions
any-positions span x =
    any-range span.s (span.e - span.s) x ∙ grind (arith, nat_tests)

pub length-positions : (span : Span) → length (positions span) ≡ span.e - span.s
unfolding positions
length-positions span = length-range_with_len span.s (span.e - span.s)

find-range_some : (p : ℕ → Bool) (from n x : ℕ) → from ≤ x → x < from + n → p x ≡ true → ((y : ℕ) → from ≤ y → y < x → p y ≡ false) → find p (range_with_len from n) ≡ Some x
find-range_some p from zero x low high here before = absurd (omega arith)
find-range_some p from (suc n) x low high here before =
    elim (cases_eq from x) [
      | inl e ↦ let here' : p from ≡ true = subst (λ k. p k ≡ true) (sym e) here in rw here' (ap Some e)
      | inr ne ↦
          let next : p from ≡ false = before from (omega arith) (omega arith) in
          rw next (find-range_some p (from + 1) n x (omega arith) (omega arith) here (λ y above below. before y (omega arith) below))
    ]

find-range_none : (p : ℕ → Bool) (from n : ℕ) → ((y : ℕ) → from ≤ y → y < from + n → p y ≡ false) → find p (range_with_len from n) ≡ None
find-range_none p from zero none = refl
find-range_none p from (suc n) none =
    let next : p from ≡ false = none from (omega arith) (omega arith) in
    rw next (find-range_none p (from + 1) n (λ y above below. none y (omega arith) (omega arith)))

-- the first position of a span that passes a test
pub find-positions_some : (p : ℕ → Bool) (span : Span) (x : ℕ) → IsTrue (has span x) → p x ≡ true → ((y : ℕ) → span.s ≤ y → y < x → p y ≡ false) → find p (positions span) ≡ Some x
unfolding positions
find-positions_some p span x here passes before =
    let ends = between_has span x here in
    find-range_some p span.s (span.e - span.s) x (omega arith) (omega arith) passes before

pub find-positions_none : (p : ℕ → Bool) (span : Span) → ((y : ℕ) → IsTrue (has span y) → p y ≡ false) → find p (positions span) ≡ None
unfolding positions
find-positions_none p span none =
    find-range_none p span.s (span.e - span.s) (λ y above below. none y (has_between span y above (omega arith)))

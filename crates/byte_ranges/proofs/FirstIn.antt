-- The first position of a span that a list of apart spans has.
use Rattle.std.proofs.Common.{◌≡◌, ℕ, ◌+◌, ◌-◌, ◌<◌, ◌≤◌, max, true, false, refl, nat_lt, Option, MatchOption, List, [], ◌∷◌, ◌++◌, length, take, drop, ap, ◌∙◌, inl, inr, arith}
use Rattle.std.specs.FinSet.{FinSet, contains}
use Rattle.std.specs.Ordering.{nat_cmp}
use Rattle.std.proofs.lemmas.Bool.{cases_lt}
use Rattle.std.proofs.lemmas.Bool.Decides.{nat_tests}
use Rattle.part_sizes.specs.declared.span.Span.{Span}
use Rattle.part_sizes.specs.Span.{is_empty}
use Rattle.part_sizes.proofs.Laws.{between_has, has_between}
use Rattle.byte_ranges.specs.RangeSet.{IsFirstIn, Misses}
use Rattle.byte_ranges.specs.Spans.{AreApart, Each, IsApart, run_start, set_of}
use Rattle.byte_ranges.proofs.Answered.{in_parts, is_filled}
use Rattle.byte_ranges.proofs.Apart.{AreApart-drop}
use Rattle.byte_ranges.proofs.Gap.{begins_before_none, some_of, run_before}
use Rattle.byte_ranges.proofs.Lists.{rest_of}
use Rattle.byte_ranges.proofs.Members.{any_has}

first_in_at : (set : FinSet nat_cmp) (span : Span) (front rest : List Span) (low high : ℕ) → ((x : ℕ) → contains set x ≡ any_has (front ++ rest) x) → span.s < span.e → Each (λ q. q.e < span.s + 1) front → Each (λ q. span.s + 1 ≤ q.e) rest → IsApart low high rest → MatchOption (run_start rest span) (Misses set span) (λ x. IsFirstIn set span x)
first_in_at set span front [] low high is filled ended reaching apart =
    λ x here. let ends = between_has span x here in is x ∙ begins_before_none low high span.s span.e x front [] ended apart refl ends.0 ends.1
first_in_at set span front (q ∷ rest) low high is filled ended reaching apart =
    elim (cases_lt q.s span.e) [
      | inl below ↦
          let test : nat_lt q.s span.e ≡ true = grind (arith, nat_tests) in
          rw test (record {
            here = has_between span (max q.s span.s) (omega arith) (omega (arith, below, filled));
            had = is (max q.s span.s) ∙ some_of front q rest (max q.s span.s) (has_between q (max q.s span.s) (omega arith) (omega (arith, reaching.0, apart.1)));
            before = λ y above early. is y ∙ run_before span.s y front q rest high ended apart.3 (omega arith) (omega arith) (omega (arith, apart.1));
          })
      | inr behind ↦
          let test : nat_lt q.s span.e ≡ false = grind (arith, nat_tests) in
          rw test (λ x here. let ends = between_has span x here in is x ∙ begins_before_none low high span.s span.e x front (q ∷ rest) ended apart test ends.0 ends.1)
    ]

pub first_in_is : (xs : List Span) (span : Span) (i : ℕ) (result : Option ℕ) → is_empty span ≡ false → AreApart xs → Each (λ q. q.e < span.s + 1) (take i xs) → Each (λ q. span.s + 1 ≤ q.e) (drop i xs) → result ≡ run_start (take (length xs - i) (drop i xs)) span → MatchOption result (Misses (set_of xs) span) (λ x. IsFirstIn (set_of xs) span x)
first_in_is xs span i result some apart ended reaching result_is =
    let at : result ≡ run_start (drop i xs) span = result_is ∙ ap (λ ys. run_start ys span) (rest_of i xs) in
    let rest = AreApart-drop i xs apart in
    rw at (first_in_at (set_of xs) span (take i xs) (drop i xs) 0 rest.0 (in_parts xs i) (is_filled span some) ended reaching rest.1)

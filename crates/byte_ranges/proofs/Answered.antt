-- What the questions on a list of spans answer of the set of its positions.
use Rattle.std.proofs.Common.{◌≡◌, ℕ, ◌+◌, ◌-◌, ◌<◌, ◌≤◌, Bool, true, false, IsTrue, nat_lt, Option, MatchOption, List, ◌++◌, length, take, drop, take-append-drop, ap, sym, ◌∙◌, inl, inr, arith}
use Rattle.std.specs.Bool.{then_some}
use Rattle.std.specs.FinSet.{contains}
use Rattle.std.proofs.lemmas.Bool.{cases_Bool, cases_lt, false≢true}
use Rattle.std.proofs.lemmas.Bool.Decides.{nat_tests}
use Rattle.part_sizes.specs.declared.span.Span.{Span}
use Rattle.part_sizes.specs.Span.{is_empty}
use Rattle.part_sizes.proofs.Laws.{between_has, has_between}
use Rattle.byte_ranges.specs.RangeSet.{Covers, IsFirstOut, Meets}
use Rattle.byte_ranges.specs.Spans.{AreApart, Each, begins_before, run_end, set_of}
use Rattle.byte_ranges.proofs.Apart.{AreApart-drop}
use Rattle.byte_ranges.proofs.Gap.{begins_before_none, begins_before_some, run_end_in, run_end_out, run_end_past}
use Rattle.byte_ranges.proofs.Lists.{rest_of}
use Rattle.byte_ranges.proofs.Members.{any_has, contains-set_of}

pub in_parts : (xs : List Span) (i x : ℕ) → contains (set_of xs) x ≡ any_has (take i xs ++ drop i xs) x
in_parts xs i x = contains-set_of xs x ∙ ap (λ ys. any_has ys x) (sym (take-append-drop i xs))

pub is_filled : (span : Span) → is_empty span ≡ false → span.s < span.e
is_filled span e = grind (arith, nat_tests)

first_out_at : (xs : List Span) (span : Span) (i : ℕ) → span.s < span.e → AreApart xs → Each (λ q. q.e < span.s + 1) (take i xs) → Each (λ q. span.s + 1 ≤ q.e) (drop i xs) → MatchOption (then_some (nat_lt (run_end (drop i xs) span.s) span.e) (run_end (drop i xs) span.s)) (Covers (set_of xs) span) (λ x. IsFirstOut (set_of xs) span x)
first_out_at xs span i filled apart ended reaching =
    let end = run_end (drop i xs) span.s in
    let rest = AreApart-drop i xs apart in
    let held = λ (y : ℕ) (low : span.s ≤ y) (high : y < end). in_parts xs i y ∙ run_end_in span.s y (take i xs) (drop i xs) low high in
    elim (cases_lt end span.e) [
      | inl below ↦
          let test : nat_lt end span.e ≡ true = grind (arith, nat_tests) in
          rw test (record {
            here = has_between span end (run_end_past span.s (drop i xs) reaching) below;
            out = in_parts xs i end ∙ run_end_out 0 rest.0 span.s (take i xs) (drop i xs) ended reaching rest.1;
            before = held;
          })
      | inr above ↦
          let test : nat_lt end span.e ≡ false = grind (arith, nat_tests) in
          rw test (λ x here. let ends = between_has span x here in held x ends.0 (omega (arith, ends.1, above)))
    ]

pub first_out_is : (xs : List Span) (span : Span) (i end : ℕ) (result : Option ℕ) → is_empty span ≡ false → AreApart xs → Each (λ q. q.e < span.s + 1) (take i xs) → Each (λ q. span.s + 1 ≤ q.e) (drop i xs) → end ≡ run_end (take (length xs - i) (drop i xs)) span.s → result ≡ then_some (nat_lt end span.e) end → MatchOption result (Covers (set_of xs) span) (λ x. IsFirstOut (set_of xs) span x)
first_out_is xs span i end result some apart ended reaching end_is result_is =
    let end_at : end ≡ run_end (drop i xs) span.s = end_is ∙ ap (λ ys. run_end ys span.s) (rest_of i xs) in
    rw (result_is, end_at) (first_out_at xs span i (is_filled span some) apart ended reaching)

pub meets_is : (xs : List Span) (span : Span) (i : ℕ) (result : Bool) → is_empty span ≡ false → AreApart xs → Each (λ q. q.e < span.s + 1) (take i xs) → Each (λ q. span.s + 1 ≤ q.e) (drop i xs) → result ≡ begins_before (take (length xs - i) (drop i xs)) span.e → (IsTrue result → Meets (set_of xs) span) × (Meets (set_of xs) span → IsTrue result)
meets_is xs span i result some apart ended reaching result_is =
    let at : result ≡ begins_before (drop i xs) span.e = result_is ∙ ap (λ ys. begins_before ys span.e) (rest_of i xs) in
    let rest = AreApart-drop i xs apart in (
      λ met.
          let t = begins_before_some 0 rest.0 span.s span.e (take i xs) (drop i xs) (is_filled span some) reaching rest.1 (sym at ∙ met) in
          (t.0, has_between span t.0 t.1 t.2, in_parts xs i t.0 ∙ t.3),
      λ m. elim (cases_Bool result) [
        | inl met ↦ met
        | inr never ↦
            let ends = between_has span m.0 m.1 in
            let out = begins_before_none 0 rest.0 span.s span.e m.0 (take i xs) (drop i xs) ended rest.1 (sym at ∙ never) ends.0 ends.1 in
            absurd (false≢true (sym (in_parts xs i m.0 ∙ out) ∙ m.2))
      ],
    )

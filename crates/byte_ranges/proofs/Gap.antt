-- The first position of a span that a list of apart spans does not have, and whether it has any.
use Rattle.std.proofs.Common.{◌≡◌, ℕ, ◌+◌, ◌<◌, ◌≤◌, max, Bool, true, false, nat_le, ◌||◌, List, [], ◌∷◌, ◌++◌, refl, sym, ◌∙◌, inl, inr, arith}
use Rattle.std.proofs.lemmas.Bool.{false≢true, cases_Bool, cases_lt, ltb-false, ltb-true, or_cases}
use Rattle.std.proofs.lemmas.Bool.Decides.{nat_tests}
use Rattle.std.proofs.lemmas.List.Folds.{list_any-append}
use Rattle.part_sizes.specs.declared.span.Span.{Span}
use Rattle.part_sizes.specs.Span.{has}
use Rattle.part_sizes.proofs.Laws.{between_has, has_between}
use Rattle.byte_ranges.specs.Spans.{Each, IsApart, begins_before, run_end}
use Rattle.byte_ranges.proofs.Edits.{any_ended}
use Rattle.byte_ranges.proofs.Members.{any_has}

any_from : (low high : ℕ) (xs : List Span) (x : ℕ) → IsApart low high xs → any_has xs x ≡ true → low ≤ x
any_from low high [] x h some = absurd (false≢true some)
any_from low high (q ∷ xs) x h some =
    elim (or_cases (has q x) (any_has xs x) some) [
      | inl here ↦ let inside = between_has q x here in omega (arith, inside.0, h.0)
      | inr there ↦ let more = any_from (q.e + 1) high xs x h.3 there in omega (arith, more, h.0, h.1)
    ]

-- a position that neither part has
none_of : (xs ys : List Span) (x : ℕ) → (any_has xs x ≡ true → ⊥) → (any_has ys x ≡ true → ⊥) → any_has (xs ++ ys) x ≡ false
none_of xs ys x not_xs not_ys =
    elim (cases_Bool (any_has (xs ++ ys) x)) [
      | inr none ↦ none
      | inl found ↦
          absurd (elim (or_cases (any_has xs x) (any_has ys x) (sym (list_any-append (λ q. has q x) xs ys) ∙ found)) [ inl one ↦ not_xs one | inr two ↦ not_ys two ])
    ]

pub some_of : (xs : List Span) (q : Span) (ys : List Span) (x : ℕ) → has q x ≡ true → any_has (xs ++ q ∷ ys) x ≡ true
some_of xs q ys x here =
    list_any-append (λ q. has q x) xs (q ∷ ys) ∙ rw here (or_true (any_has xs x))
  where
    or_true : (b : Bool) → (b || true) ≡ true
    or_true true = refl
    or_true false = refl

-- no later span has a position at or before the end of an earlier one
not_later : (q : Span) (high : ℕ) (xs : List Span) (x : ℕ) → x ≤ q.e → IsApart (q.e + 1) high xs → any_has xs x ≡ true → ⊥
not_later q high xs x low apart found =
    let above = any_from (q.e + 1) high xs x apart found in omega (arith, above)

not_in : (q : Span) (high : ℕ) (xs : List Span) (x : ℕ) → x ≤ q.e → (has q x ≡ true → ⊥) → IsApart (q.e + 1) high xs → any_has (q ∷ xs) x ≡ true → ⊥
not_in q high xs x low out apart found =
    elim (or_cases (has q x) (any_has xs x) found) [
      | inl here ↦ out here
      | inr there ↦ not_later q high xs x low apart there
    ]

pub run_end_out : (low high start : ℕ) (front rest : List Span) → Each (λ q. q.e < start + 1) front → Each (λ q. start + 1 ≤ q.e) rest → IsApart low high rest → any_has (front ++ rest) (run_end rest start) ≡ false
run_end_out low high start front [] ended reaching apart =
    none_of front [] start (λ found. let past = any_ended front (start + 1) start ended found in omega (arith, past)) (λ found. false≢true found)
run_end_out low high start front (q ∷ rest) ended reaching apart =
    elim (cases_lt start q.s) [
      | inl later ↦
          let test : nat_le q.s start ≡ false = grind (arith, nat_tests) in
          rw test (none_of front (q ∷ rest) start (λ found. let past = any_ended front (start + 1) start ended found in omega (arith, past)) (not_in q high rest start (omega (arith, apart.1)) (λ here. let inside = between_has q start here in omega (arith, inside.0)) apart.3))
      | inr had ↦
          let test : nat_le q.s start ≡ true = grind (arith, nat_tests) in
          rw test (none_of front (q ∷ rest) q.e (λ found. let past = any_ended front (start + 1) q.e ended found in omega (arith, past, reaching.0)) (not_in q high rest q.e (omega arith) (λ here. let inside = between_has q q.e here in omega (arith, inside.1)) apart.3))
    ]

pub run_end_in : (start y : ℕ) (front rest : List Span) → start ≤ y → y < run_end rest start → any_has (front ++ rest) y ≡ true
run_end_in start y front [] low high = absurd (omega arith)
run_end_in start y front (q ∷ rest) low high =
    elim (cases_lt start q.s) [
      | inl later ↦
          let test : nat_le q.s start ≡ false = grind (arith, nat_tests) in
          absurd (let past = rw test at high in omega (arith, past))
      | inr had ↦
          let test : nat_le q.s start ≡ true = grind (arith, nat_tests) in
          let past = rw test at high in
          some_of front q rest y (has_between q y (omega arith) past)
    ]

pub run_end_past : (start : ℕ) (rest : List Span) → Each (λ q. start + 1 ≤ q.e) rest → start ≤ run_end rest start
run_end_past start [] reaching = omega arith
run_end_past start (q ∷ rest) reaching =
    elim (cases_lt start q.s) [
      | inl later ↦
          let test : nat_le q.s start ≡ false = grind (arith, nat_tests) in rw test (omega arith)
      | inr had ↦
          let test : nat_le q.s start ≡ true = grind (arith, nat_tests) in
          rw test (omega (arith, reaching.0))
    ]

-- a list that reaches past the start has a position before the end exactly where its first span
-- begins before the end
pub begins_before_some : (low high start end : ℕ) (front rest : List Span) → start < end → Each (λ q. start + 1 ≤ q.e) rest → IsApart low high rest → begins_before rest end ≡ true → (x : ℕ) × (start ≤ x) × (x < end) × (any_has (front ++ rest) x ≡ true)
begins_before_some low high start end front [] filled reaching apart begun = absurd (false≢true begun)
begins_before_some low high start end front (q ∷ rest) filled reaching apart begun =
    let begins = ltb-true q.s end begun in
    (max start q.s, omega arith, omega (arith, begins), some_of front q rest (max start q.s) (has_between q (max start q.s) (omega arith) (omega (arith, reaching.0, apart.1))))

pub begins_before_none : (low high start end x : ℕ) (front rest : List Span) → Each (λ q. q.e < start + 1) front → IsApart low high rest → begins_before rest end ≡ false → start ≤ x → x < end → any_has (front ++ rest) x ≡ false
begins_before_none low high start end x front [] ended apart begun above below =
    none_of front [] x (λ found. let past = any_ended front (start + 1) x ended found in omega (arith, past)) (λ found. false≢true found)
begins_before_none low high start end x front (q ∷ rest) ended apart begun above below =
    let later = ltb-false q.s end begun in
    none_of front (q ∷ rest) x (λ found. let past = any_ended front (start + 1) x ended found in omega (arith, past)) (not_in q high rest x (omega (arith, later, apart.1)) (λ here. let inside = between_has q x here in omega (arith, inside.0, later)) apart.3)

-- before the first span that reaches past the start no span has a position from the start on
pub run_before : (start y : ℕ) (front : List Span) (q : Span) (rest : List Span) (high : ℕ) → Each (λ q. q.e < start + 1) front → IsApart (q.e + 1) high rest → start ≤ y → y < q.s → q.s < q.e → any_has (front ++ q ∷ rest) y ≡ false
run_before start y front q rest high ended apart above early filled =
    none_of front (q ∷ rest) y (λ found. let past = any_ended front (start + 1) y ended found in omega (arith, past)) (not_in q high rest y (omega arith) (λ here. let inside = between_has q y here in omega (arith, inside.0)) apart)

-- The list of spans that keeps a set of positions.
use Rattle.std.specs.Prelude.{ℕ, ◌+◌, ◌-◌, ◌<◌, ◌≤◌, Bool, false, nat_le, nat_lt, List, [], ◌∷◌, min, max, fold, sum_by, Option, Some, None, if◌then◌else◌}
use Rattle.std.specs.FinSet.{FinSet, from_list}
use Rattle.std.specs.List.{flat_map}
use Rattle.std.specs.Ordering.{nat_cmp}
use Rattle.part_sizes.specs.declared.span.Span.{Span}
use Rattle.part_sizes.specs.Span.{is_empty, positions}

-- the set of the positions of all the spans
unfoldable pub set_of : List Span → FinSet nat_cmp
set_of spans = from_list (flat_map positions spans)

-- the spans are not empty, ascend, do not touch, begin at or behind the first number and end before
-- the second
abbrev pub IsApart : ℕ → ℕ → List Span → Type 0
IsApart low high [] = Unit {0}
IsApart low high (span ∷ spans) =
    (low ≤ span.s) × (span.s < span.e) × (span.e < high) × IsApart (span.e + 1) high spans

-- the spans are apart, below whatever end
abbrev pub AreApart : List Span → Type 0
AreApart spans = (high : ℕ) × IsApart 0 high spans

-- from the lesser beginning to the greater end
abbrev pub widen : Span → Span → Span
widen whole next = record { s = min whole.s next.s; e = max whole.e next.e }

-- from the least beginning to the greatest end of the span and the list
abbrev pub hull : Span → List Span → Span
hull span spans = fold widen span spans

-- the span, where it has a position
abbrev pub unless_empty : Span → List Span
unless_empty span = if is_empty span then [] else span ∷ []

-- each element has the fact, by recursion
abbrev pub Each : (Span → Type 0) → List Span → Type 0
Each P [] = Unit {0}
Each P (span ∷ spans) = P span × Each P spans

-- a list cut where the spans that overlap or touch a span begin and end
pub record IsNear (span : Span) (front near behind : List Span) : Type 0 where
  pub ended : Each (λ q. q.e < span.s) front
  pub reaching : Each (λ q. span.s ≤ q.e) near
  pub begun : Each (λ q. q.s ≤ span.e) near
  pub ahead : Each (λ q. span.e < q.s) behind

-- where the run at a position ends, or the position itself, if the first span does not have it
abbrev pub run_end : List Span → ℕ → ℕ
run_end [] start = start
run_end (span ∷ spans) start = if nat_le span.s start then span.e else start

-- where the first span begins within a span, if it begins before its end
abbrev pub run_start : List Span → Span → Option ℕ
run_start [] span = None
run_start (run ∷ runs) span = if nat_lt run.s span.e then Some (max run.s span.s) else None

-- the first span begins before the end
abbrev pub begins_before : List Span → ℕ → Bool
begins_before [] end = false
begins_before (span ∷ spans) end = nat_lt span.s end

-- the number of positions of all the spans
abbrev pub total : List Span → ℕ
total spans = sum_by (λ span. span.e - span.s) spans

-- The least position out of a set as the first of the span's positions that a test passes, for
-- callers whose definitions say it so.
use Rattle.std.proofs.Common.{◌≡◌, ℕ, not, Option, Some, None, MatchOption, find, ap, sym}
use Rattle.std.specs.FinSet.{FinSet, contains}
use Rattle.std.specs.Ordering.{nat_cmp}
use Rattle.part_sizes.specs.declared.span.Span.{Span}
use Rattle.part_sizes.specs.Span.{positions}
use Rattle.part_sizes.proofs.Positions.{find-positions_none, find-positions_some}
use Rattle.byte_ranges.specs.RangeSet.{Covers, IsFirstOut}

pub first_out-find : (set : FinSet nat_cmp) (span : Span) (first : Option ℕ) → MatchOption first (Covers set span) (λ x. IsFirstOut set span x) → first ≡ find (λ x. not (contains set x)) (positions span)
first_out-find set span None covers =
    sym (find-positions_none (λ x. not (contains set x)) span (λ y here. ap not (covers y here)))
first_out-find set span (Some x) first =
    sym (find-positions_some (λ x. not (contains set x)) span x first.here (ap not first.out) (λ y low high. ap not (first.before y low high)))

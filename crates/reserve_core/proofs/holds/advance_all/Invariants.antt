use Rattle.std.proofs.Common.{◌≡◌, ℕ, ◌<◌, ◌≤◌, slice_index_or}
use Rattle.reserve_core.specs.Steps.{past}
use Rattle.reserve_core.specs.declared.hold.Hold.{Hold}
use Rattle.reserve_core.proofs.holds.advance_all.Given as goal

abbrev pub invariant-loop-hold : goal.invariant-loop-hold
invariant-loop-hold l =
    ((k : ℕ) (d : Hold) → k < l.hold-index → slice_index_or l.ranges k d ≡ past l.span (slice_index_or l.initial.ranges k d))
    × ((k : ℕ) (d : Hold) → l.hold-index ≤ k → slice_index_or l.ranges k d ≡ slice_index_or l.initial.ranges k d)

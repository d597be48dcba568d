use Rattle.std.proofs.Common.{◌≡◌, ℕ, ◌<◌, ◌≤◌, slice_index_or, false}
use Rattle.reserve_core.specs.declared.part_state.PartState.{PartState}
use Rattle.reserve_core.proofs.part_state.commit_all.Given as goal

abbrev pub invariant-loop-state : goal.invariant-loop-state
invariant-loop-state l =
    ((i : ℕ) (d : PartState) → i < l.state-index → slice_index_or l.states i d ≡ record { verdict = (slice_index_or l.initial.states i d).verdict; uncommitted = false; failures = (slice_index_or l.initial.states i d).failures })
    × ((i : ℕ) (d : PartState) → l.state-index ≤ i → slice_index_or l.states i d ≡ slice_index_or l.initial.states i d)

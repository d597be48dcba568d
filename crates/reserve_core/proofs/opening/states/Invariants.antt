use Rattle.std.proofs.Common.{◌≡◌, ℕ, ◌<◌, length, slice_index_or, false}
use Rattle.part_hashset.specs.Goals.{digest_in}
use Rattle.reserve_core.specs.declared.part_state.PartState.{PartState}
use Rattle.reserve_core.proofs.opening.states.Given as goal

abbrev pub invariant-loop-part : goal.invariant-loop-part
invariant-loop-part l =
    (length l.states.items ≡ l.part)
    × ((i : ℕ) (d : PartState) → i < l.part → slice_index_or l.states.items i d ≡ record { verdict = digest_in l.pairs i; uncommitted = false; failures = 0 })

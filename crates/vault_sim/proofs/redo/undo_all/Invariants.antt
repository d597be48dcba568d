use Rattle.std.proofs.Common.{◌≡◌, ◌≤◌, length, drop}
use Rattle.vault_sim.specs.Steps.{unmade}
use Rattle.vault_sim.proofs.redo.undo_all.Given as goal

abbrev pub invariant-loop-left : goal.invariant-loop-left
invariant-loop-left l = (l.left ≤ length l.steps) × (l.bytes.items ≡ unmade (drop l.left l.steps) l.initial.bytes.items)

abbrev pub decreases-loop-left : goal.decreases-loop-left
decreases-loop-left l = l.left

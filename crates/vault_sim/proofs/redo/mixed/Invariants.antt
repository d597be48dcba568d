use Rattle.std.proofs.Common.{◌≡◌, length}
use Rattle.vault_sim.proofs.redo.mixed.Given as goal

abbrev pub invariant-loop-k : goal.invariant-loop-k
invariant-loop-k l = length l.piece.items ≡ l.k

use Rattle.std.proofs.Common.{◌-◌}
use Rattle.reserve_core.proofs.Choosing.{Passed}
use Rattle.reserve_core.proofs.choice.first_free.Given as goal

abbrev pub invariant-loop-at : goal.invariant-loop-at
invariant-loop-at l = Passed l.filled.set l.holders l.span.s l.at

abbrev pub decreases-loop-at : goal.decreases-loop-at
decreases-loop-at l = l.span.e - l.at

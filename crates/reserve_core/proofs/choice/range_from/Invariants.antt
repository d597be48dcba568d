use Rattle.std.proofs.Common.{take}
use Rattle.reserve_core.specs.Free.{IsUnheld, has_any}
use Rattle.reserve_core.proofs.choice.range_from.Given as goal

abbrev pub invariant-loop-hold : goal.invariant-loop-hold
invariant-loop-hold l = IsUnheld (has_any (take l.hold-index l.ranges)) l.span l.end

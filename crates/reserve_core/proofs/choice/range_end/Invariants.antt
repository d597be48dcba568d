use Rattle.std.proofs.Common.{◌≡◌, drop}
use Rattle.reserve_core.specs.Free.{has_any}
use Rattle.reserve_core.proofs.choice.range_end.Given as goal

abbrev pub invariant-loop-hold : goal.invariant-loop-hold
invariant-loop-hold l = has_any l.ranges l.position ≡ has_any (drop l.hold-index l.ranges) l.position

use Rattle.std.proofs.Common.{◌≡◌, drop}
use Rattle.reserve_core.specs.Free.{is_kept}
use Rattle.reserve_core.proofs.choice.held_end.Given as goal

abbrev pub invariant-loop-holder : goal.invariant-loop-holder
invariant-loop-holder l = is_kept l.holders l.position ≡ is_kept (drop l.holder-index l.holders) l.position

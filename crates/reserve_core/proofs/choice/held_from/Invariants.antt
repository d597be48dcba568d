use Rattle.std.proofs.Common.{take}
use Rattle.reserve_core.specs.Free.{IsUnheld, is_kept}
use Rattle.reserve_core.proofs.choice.held_from.Given as goal

abbrev pub invariant-loop-holder : goal.invariant-loop-holder
invariant-loop-holder l = IsUnheld (is_kept (take l.holder-index l.holders)) l.span l.end

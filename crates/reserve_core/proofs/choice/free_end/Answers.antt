use Rattle.std.proofs.Common.{◌∙◌}
use Rattle.reserve_core.proofs.Choosing.{stop-is}
use Rattle.reserve_core.proofs.choice.free_end.Goals as goal

pub returns : goal.returns
returns c = c.unwrap_or.ensures ∙ stop-is c.args.filled.now.set c.args.holders.now c.args.span c.held_from-end.result c.first_in.result c.held_from-end.ensures c.first_in.ensures

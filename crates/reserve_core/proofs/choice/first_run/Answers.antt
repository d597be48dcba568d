use Rattle.std.proofs.Common.{◌∙◌, sym}
use Rattle.reserve_core.specs.Free.{is_clear}
use Rattle.reserve_core.proofs.Choosing.{first-within}
use Rattle.reserve_core.proofs.choice.first_run.Goals as goal

pub free_end-end-requires : goal.free_end-end-requires
free_end-end-requires c = (first-within (is_clear c.args.filled.now.set c.args.holders.now) c.args.span c.in-Some.start (sym c.in-Some.is ∙ c.first_free.ensures), c.requires.1)

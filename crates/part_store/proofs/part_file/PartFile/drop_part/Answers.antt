use Rattle.std.proofs.Common.{is_ok}
use Rattle.part_store.proofs.Kept.{keeps-dropped}
use Rattle.part_store.proofs.part_file.PartFile.drop_part.Goals as goal

pub invariant_of-self : goal.invariant_of-self
invariant_of-self g c = keeps-dropped c.args.part (is_ok c.drop_part.result) c.self.invariant c.drop_part.ensures.aim c.calls.ensures c.drop_part.ensures.log

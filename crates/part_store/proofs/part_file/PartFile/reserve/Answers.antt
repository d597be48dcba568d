use Rattle.std.proofs.Common.{refl, is_ok}
use Rattle.reserve_core.specs.declared.event.Event.TheVariants as event
use Rattle.reserve_core.specs.Events.{events}
use Rattle.reserve_core.specs.Choice.{pick_of}
use Rattle.part_store.proofs.Kept.{keeps-silent}
use Rattle.part_store.proofs.part_file.PartFile.reserve.Goals as goal

pub invariant_of-self : goal.invariant_of-self
invariant_of-self g c = keeps-silent (event.Reserve c.args.peer (pick_of c.self.inside.core.aim.size (events c.self.inside.core.log) c.args.peer)) (is_ok c.reserve.result) c.self.invariant c.reserve.ensures.aim c.calls.ensures (λ j. refl) c.reserve.ensures.log

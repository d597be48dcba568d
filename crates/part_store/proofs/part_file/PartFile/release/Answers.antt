use Rattle.std.proofs.Common.{refl}
use Rattle.reserve_core.specs.declared.event.Event.TheVariants as event
use Rattle.reserve_core.specs.Events.{events}
use Rattle.reserve_core.specs.Held.{is_holder}
use Rattle.part_store.proofs.Kept.{keeps-silent}
use Rattle.part_store.proofs.part_file.PartFile.release.Goals as goal

pub invariant_of-self : goal.invariant_of-self
invariant_of-self g c = keeps-silent (event.Release c.args.peer) (is_holder (events c.self.inside.core.log) c.args.peer) c.self.invariant c.release.ensures.aim c.calls.ensures (λ j. refl) c.release.ensures.log

use Rattle.std.proofs.Common.{refl, is_ok}
use Rattle.reserve_core.specs.declared.event.Event.TheVariants as event
use Rattle.part_store.proofs.Kept.{keeps-silent}
use Rattle.part_store.proofs.part_file.PartFile.offer.Goals as goal

pub invariant_of-self : goal.invariant_of-self
invariant_of-self g c = keeps-silent (event.Offer c.args.peer c.args.bits) (is_ok c.offer.result) c.self.invariant c.offer.ensures.aim c.calls.ensures (λ j. refl) c.offer.ensures.log

use Rattle.std.proofs.Common.{refl, is_ok}
use Rattle.reserve_core.specs.declared.event.Event.TheVariants as event
use Rattle.part_store.proofs.Kept.{keeps-silent}
use Rattle.part_store.proofs.part_file.PartFile.hashes.Goals as goal

pub invariant_of-self : goal.invariant_of-self
invariant_of-self g c = keeps-silent (event.Hashes c.args.set) (is_ok c.hashes.result) c.self.invariant c.hashes.ensures.aim c.calls.ensures (λ j. refl) c.hashes.ensures.log

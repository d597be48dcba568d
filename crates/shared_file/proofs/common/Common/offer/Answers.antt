use Rattle.part_store.proofs.Served.{offer-served}
use Rattle.reserve_core.specs.declared.desk.Answer.TheVariants as answer
use Rattle.reserve_core.specs.declared.desk.DeskAsk.TheVariants as ask
use Rattle.reserve_core.specs.declared.event.Event.TheVariants as event
use Rattle.shared_file.proofs.Turns.{call_marks, call_steps, stays_logged}
use Rattle.shared_file.proofs.common.Common.offer.Goals as goal

pub returns-clause-steps : goal.returns-clause-steps
returns-clause-steps g c =
    let old = c.args.self.now.file in
    let new = c.offer.new.self in
    let r = c.offer.result in
    let n = c.args.number in
    call_steps n (ask.Offer c.args.bits) (answer.Offer r) old new _ _ _ _ r
    (offer-served old.aim n _ c.args.bits old.log new.log (g.V.Vault.files old.vault) (g.V.Vault.files new.vault) r c.offer.ensures.answer c.offer.ensures.log c.offer.ensures.files)
    (stays_logged old.log new.log (g.V.Vault.made new.vault) (event.Offer n c.args.bits) r c.offer.ensures.log) c.offer.ensures.store

pub returns-clause-marks : goal.returns-clause-marks
returns-clause-marks g c = call_marks c.args.self.now.file.broken c.offer.new.self.broken _ _ c.offer.result c.offer.ensures.store

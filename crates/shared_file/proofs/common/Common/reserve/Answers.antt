use Rattle.part_store.proofs.Served.{reserve-served}
use Rattle.reserve_core.specs.Choice.{pick_of}
use Rattle.reserve_core.specs.Events.{events}
use Rattle.reserve_core.specs.declared.desk.Answer.TheVariants as answer
use Rattle.reserve_core.specs.declared.desk.DeskAsk.TheVariants as ask
use Rattle.reserve_core.specs.declared.event.Event.TheVariants as event
use Rattle.shared_file.proofs.Turns.{call_marks, call_steps, stays_logged}
use Rattle.shared_file.proofs.common.Common.reserve.Goals as goal

pub returns-clause-steps : goal.returns-clause-steps
returns-clause-steps g c =
    let old = c.args.self.now.file in
    let new = c.reserve.new.self in
    let r = c.reserve.result in
    let n = c.args.number in
    call_steps n ask.Reserve (answer.Reserve r) old new _ _ _ _ r
    (reserve-served old.aim n _ old.log new.log (g.V.Vault.files old.vault) (g.V.Vault.files new.vault) r c.reserve.ensures.answer c.reserve.ensures.log c.reserve.ensures.spans c.reserve.ensures.files)
    (stays_logged old.log new.log (g.V.Vault.made new.vault) (event.Reserve n (pick_of old.aim.size (events old.log) n)) r c.reserve.ensures.log) c.reserve.ensures.store

pub returns-clause-marks : goal.returns-clause-marks
returns-clause-marks g c = call_marks c.args.self.now.file.broken c.reserve.new.self.broken _ _ c.reserve.result c.reserve.ensures.store

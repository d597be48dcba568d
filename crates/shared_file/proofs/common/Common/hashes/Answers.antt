use Rattle.part_store.proofs.Served.{hashes-served}
use Rattle.reserve_core.specs.declared.desk.Answer.TheVariants as answer
use Rattle.reserve_core.specs.declared.desk.DeskAsk.TheVariants as ask
use Rattle.reserve_core.specs.declared.event.Event.TheVariants as event
use Rattle.shared_file.proofs.Turns.{call_marks, call_steps, stays_logged}
use Rattle.shared_file.proofs.common.Common.hashes.Goals as goal

pub returns-clause-steps : goal.returns-clause-steps
returns-clause-steps g c =
    let old = c.args.self.now.file in
    let new = c.hashes.new.self in
    let r = c.hashes.result in
    let n = c.args._number in
    call_steps n (ask.Hashes c.args.set) (answer.Hashes r) old new _ _ _ _ r
    (hashes-served old.aim n _ c.args.set old.log new.log (g.V.Vault.files old.vault) (g.V.Vault.files new.vault) r c.hashes.ensures.answer c.hashes.ensures.log c.hashes.ensures.files)
    (stays_logged old.log new.log (g.V.Vault.made new.vault) (event.Hashes c.args.set) r c.hashes.ensures.log) c.hashes.ensures.store

pub returns-clause-marks : goal.returns-clause-marks
returns-clause-marks g c = call_marks c.args.self.now.file.broken c.hashes.new.self.broken _ _ c.hashes.result c.hashes.ensures.store

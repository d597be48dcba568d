use Rattle.part_store.proofs.Served.{dropped-served}
use Rattle.reserve_core.specs.declared.desk.Answer.TheVariants as answer
use Rattle.reserve_core.specs.declared.desk.DeskAsk.TheVariants as ask
use Rattle.reserve_core.specs.declared.event.Event.TheVariants as event
use Rattle.shared_file.proofs.Turns.{call_marks, call_steps, stays_logged}
use Rattle.shared_file.proofs.common.Common.drop_part.Goals as goal

pub returns-clause-steps : goal.returns-clause-steps
returns-clause-steps g c =
    let old = c.args.self.now.file in
    let new = c.drop_part.new.self in
    let r = c.drop_part.result in
    let n = c.args._number in
    call_steps n (ask.DropPart c.args.part) (answer.DropPart r) old new _ _ _ _ r
    (dropped-served old.aim n _ c.args.part old.log new.log (g.V.Vault.files old.vault) (g.V.Vault.files new.vault) r c.drop_part.ensures.answer c.drop_part.ensures.log c.drop_part.ensures.files)
    (stays_logged old.log new.log (g.V.Vault.made new.vault) (event.Dropped c.args.part) r c.drop_part.ensures.log) c.drop_part.ensures.store

pub returns-clause-marks : goal.returns-clause-marks
returns-clause-marks g c = call_marks c.args.self.now.file.broken c.drop_part.new.self.broken _ _ c.drop_part.result c.drop_part.ensures.store

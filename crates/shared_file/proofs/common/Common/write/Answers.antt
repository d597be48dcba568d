use Rattle.part_store.proofs.Served.{write-served}
use Rattle.reserve_core.specs.Desk.{span_at}
use Rattle.reserve_core.specs.declared.desk.Answer.TheVariants as answer
use Rattle.reserve_core.specs.declared.desk.DeskAsk.TheVariants as ask
use Rattle.reserve_core.specs.declared.event.Event.TheVariants as event
use Rattle.shared_file.proofs.Turns.{call_marks, call_steps, stays_logged}
use Rattle.shared_file.proofs.common.Common.write.Goals as goal

pub returns-clause-steps : goal.returns-clause-steps
returns-clause-steps g c =
    let old = c.args.self.now.file in
    let new = c.write.new.self in
    let r = c.write.result in
    let n = c.args.number in
    call_steps n (ask.Write c.args.at c.args.piece.now) (answer.Write r) old new _ _ _ _ r
    (write-served old.aim n _ c.args.at c.args.piece.now old.log new.log (g.V.Vault.files old.vault) (g.V.Vault.files new.vault) r c.write.ensures.answer c.write.ensures.log c.write.ensures.full c.write.ensures.body)
    (stays_logged old.log new.log (g.V.Vault.made new.vault) (event.Write n (span_at c.args.at c.args.piece.now)) r c.write.ensures.log) c.write.ensures.store

pub returns-clause-marks : goal.returns-clause-marks
returns-clause-marks g c = call_marks c.args.self.now.file.broken c.write.new.self.broken _ _ c.write.result c.write.ensures.store

use Rattle.part_store.proofs.Served.{verify-served}
use Rattle.reserve_core.specs.declared.desk.Answer.TheVariants as answer
use Rattle.reserve_core.specs.declared.desk.DeskAsk.TheVariants as ask
use Rattle.reserve_core.specs.declared.event.Event.TheVariants as event
use Rattle.shared_file.proofs.Turns.{call_marks, call_steps, stays_logged}
use Rattle.shared_file.proofs.common.Common.verify.Goals as goal

pub returns-clause-steps : goal.returns-clause-steps
returns-clause-steps g c =
    let old = c.args.self.now.file in
    let new = c.verify.new.self in
    let r = c.verify.result in
    let n = c.args._number in
    call_steps n (ask.Verify c.args.part) (answer.Verify r) old new _ _ _ _ r
    (verify-served old.aim n _ c.args.part old.log new.log (g.V.Vault.files old.vault) (g.V.Vault.files new.vault) r c.verify.ensures.answer c.verify.ensures.judged c.verify.ensures.files)
    (stays_logged old.log new.log (g.V.Vault.made new.vault) (event.Verdict c.args.part c.verify.ensures.judged.digest) r c.verify.ensures.judged.log) c.verify.ensures.store

pub returns-clause-marks : goal.returns-clause-marks
returns-clause-marks g c = call_marks c.args.self.now.file.broken c.verify.new.self.broken _ _ c.verify.result c.verify.ensures.store

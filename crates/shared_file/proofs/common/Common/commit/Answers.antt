use Rattle.part_store.proofs.Served.{commit-served}
use Rattle.reserve_core.specs.declared.desk.Answer.TheVariants as answer
use Rattle.reserve_core.specs.declared.desk.DeskAsk.TheVariants as ask
use Rattle.shared_file.proofs.Turns.{call_marks, call_steps, stays_committed}
use Rattle.shared_file.proofs.common.Common.commit.Goals as goal

pub returns-clause-steps : goal.returns-clause-steps
returns-clause-steps g c =
    let old = c.args.self.now.file in
    let new = c.commit.new.self in
    let r = c.commit.result in
    let n = c.args._number in
    call_steps n ask.Commit (answer.Commit r) old new _ _ _ _ r
    (commit-served old.aim n _ old.log new.log (g.V.Vault.files old.vault) (g.V.Vault.files new.vault) r c.commit.ensures.refused c.commit.ensures.log c.commit.ensures.files)
    (stays_committed old.log new.log (g.V.Vault.made new.vault) r c.commit.ensures.log) c.commit.ensures.store

pub returns-clause-marks : goal.returns-clause-marks
returns-clause-marks g c = call_marks c.args.self.now.file.broken c.commit.new.self.broken _ _ c.commit.result c.commit.ensures.store

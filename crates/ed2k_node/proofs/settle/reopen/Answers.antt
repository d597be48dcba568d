use Rattle.reserve_core.specs.Events.{events}
use Rattle.ed2k_node.proofs.Reopening.{goes_dropped, goes_same, reopened_err, reopened_ok, reopened_others, reopened_same, whole_stays}
use Rattle.ed2k_node.proofs.Settling.{on_ok, settled_same, settled_still}
use Rattle.ed2k_node.proofs.settle.reopen.Goals as goal

pub returns-in-Ok-clause-settled : goal.returns-in-Ok-clause-settled
returns-in-Ok-clause-settled g c =
    settled_still c.args.file.now.aim c.args.file.now.log c.drop_part.new.self.log (g.V.Vault.made c.drop_part.new.self.vault) c.args.part c.in-Ok.ensures.log

pub returns-in-Err-clause-settled : goal.returns-in-Err-clause-settled
returns-in-Err-clause-settled g c =
    settled_same c.args.file.now.aim c.args.file.now.log c.drop_part.new.self.log c.in-Err.ensures.log

pub returns-in-Ok-clause-goes_on : goal.returns-in-Ok-clause-goes_on
returns-in-Ok-clause-goes_on g c =
    goes_dropped c.args.file.now.log c.drop_part.new.self.log (g.V.Vault.made c.drop_part.new.self.vault) c.args.part c.in-Ok.ensures.log

pub returns-in-Err-clause-goes_on : goal.returns-in-Err-clause-goes_on
returns-in-Err-clause-goes_on g c = goes_same c.args.file.now.log c.drop_part.new.self.log c.in-Err.ensures.log

pub returns-in-Ok-clause-reopened : goal.returns-in-Ok-clause-reopened
returns-in-Ok-clause-reopened g c =
    reopened_ok c.args.file.now.aim c.args.file.now.log c.drop_part.new.self.log (g.V.Vault.made c.drop_part.new.self.vault) c.args.part c.in-Ok.ensures.log

pub returns-in-Err-clause-reopened : goal.returns-in-Err-clause-reopened
returns-in-Err-clause-reopened g c =
    on_ok c.skip_refusal.result c.skip_refusal.ensures.ok
    (reopened_err c.args.file.now.aim c.args.file.now.log c.drop_part.new.self.log c.args.part c.in-Err.fault c.in-Err.ensures.answer c.in-Err.ensures.log)

pub returns-in-Ok-clause-others : goal.returns-in-Ok-clause-others
returns-in-Ok-clause-others g c =
    reopened_others c.args.file.now.aim c.args.file.now.log c.drop_part.new.self.log (g.V.Vault.made c.drop_part.new.self.vault) c.args.part c.in-Ok.ensures.log

pub returns-in-Err-clause-others : goal.returns-in-Err-clause-others
returns-in-Err-clause-others g c =
    reopened_same c.args.file.now.aim c.args.file.now.log c.drop_part.new.self.log c.in-Err.ensures.log

pub returns-in-Ok-clause-still : goal.returns-in-Ok-clause-still
returns-in-Ok-clause-still g c =
    λ whole. absurd (whole_stays c.args.file.now.aim (events c.args.file.now.log) c.args.part c.in-Ok.ensures.answer whole)

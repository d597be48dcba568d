use Rattle.reserve_core.specs.Events.{events}
use Rattle.ed2k_node.proofs.Reopening.{goes_judged, goes_same, judged_stays}
use Rattle.ed2k_node.proofs.Settling.{judged_ok, judged_err, judged_still, judged_same, committed_still, committed_same, on_ok}
use Rattle.ed2k_node.proofs.settle.judge.Goals as goal

pub returns-in-Ok-clause-judged : goal.returns-in-Ok-clause-judged
returns-in-Ok-clause-judged g c =
    judged_ok c.args.file.now.aim c.args.file.now.log c.verify.new.self.log (g.V.Vault.made c.verify.new.self.vault) c.args.part c.in-Ok.ensures.judged.digest c.in-Ok.ensures.judged.log

pub returns-in-Err-clause-judged : goal.returns-in-Err-clause-judged
returns-in-Err-clause-judged g c =
    on_ok c.skip_refusal.result c.skip_refusal.ensures.ok
    (judged_err c.args.file.now.aim c.args.file.now.log c.verify.new.self.log c.args.part c.in-Err.fault c.requires.committed c.in-Err.ensures.answer c.in-Err.ensures.judged.log)

pub returns-in-Ok-clause-others : goal.returns-in-Ok-clause-others
returns-in-Ok-clause-others g c =
    judged_still c.args.file.now.aim c.args.file.now.log c.verify.new.self.log (g.V.Vault.made c.verify.new.self.vault) c.args.part c.in-Ok.ensures.judged.digest c.in-Ok.ensures.judged.log

pub returns-in-Err-clause-others : goal.returns-in-Err-clause-others
returns-in-Err-clause-others g c =
    judged_same c.args.file.now.aim c.args.file.now.log c.verify.new.self.log c.in-Err.ensures.judged.log

pub returns-in-Ok-clause-committed : goal.returns-in-Ok-clause-committed
returns-in-Ok-clause-committed g c =
    committed_still c.args.file.now.log c.verify.new.self.log (g.V.Vault.made c.verify.new.self.vault) c.args.part c.in-Ok.ensures.judged.digest c.in-Ok.ensures.judged.log c.requires.committed

pub returns-in-Err-clause-committed : goal.returns-in-Err-clause-committed
returns-in-Err-clause-committed g c =
    committed_same c.args.file.now.log c.verify.new.self.log c.in-Err.ensures.judged.log c.requires.committed

pub returns-in-Ok-clause-goes_on : goal.returns-in-Ok-clause-goes_on
returns-in-Ok-clause-goes_on g c =
    goes_judged c.args.file.now.log c.verify.new.self.log (g.V.Vault.made c.verify.new.self.vault) c.args.part c.in-Ok.ensures.judged.digest c.in-Ok.ensures.judged.log

pub returns-in-Err-clause-goes_on : goal.returns-in-Err-clause-goes_on
returns-in-Err-clause-goes_on g c = goes_same c.args.file.now.log c.verify.new.self.log c.in-Err.ensures.judged.log

pub returns-in-Ok-clause-still : goal.returns-in-Ok-clause-still
returns-in-Ok-clause-still g c =
    λ judged. absurd (judged_stays c.args.file.now.aim (events c.args.file.now.log) c.args.part c.in-Ok.ensures.answer judged)

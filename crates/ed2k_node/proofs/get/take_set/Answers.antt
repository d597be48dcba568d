use Rattle.ed2k_node.proofs.New.{new_err, new_ok, opened_err, opened_ok}
use Rattle.ed2k_node.proofs.Settling.{on_ok}
use Rattle.ed2k_node.proofs.get.take_set.Goals as goal

pub returns-in-Ok-clause-opened : goal.returns-in-Ok-clause-opened
returns-in-Ok-clause-opened g c =
    opened_ok c.args.file.now.aim c.args.parts c.args.file.now.log c.hashes.new.self.log (g.V.Vault.made c.hashes.new.self.vault) c.requires c.in-Ok.ensures.answer c.in-Ok.ensures.log

pub returns-in-Err-clause-opened : goal.returns-in-Err-clause-opened
returns-in-Err-clause-opened g c =
    on_ok c.skip_refusal.result c.skip_refusal.ensures.ok (λ inside.
    opened_err c.args.file.now.aim c.args.parts c.args.file.now.log c.hashes.new.self.log c.in-Err.fault c.requires c.in-Err.ensures.answer inside c.in-Err.ensures.log)

pub returns-in-Ok-clause-new : goal.returns-in-Ok-clause-new
returns-in-Ok-clause-new g c =
    new_ok c.args.file.now.aim c.args.parts c.args.file.now.log c.hashes.new.self.log (g.V.Vault.made c.hashes.new.self.vault) c.requires c.in-Ok.ensures.answer c.in-Ok.ensures.log

pub returns-in-Err-clause-new : goal.returns-in-Err-clause-new
returns-in-Err-clause-new g c = new_err c.args.file.now.log c.hashes.new.self.log c.requires c.in-Err.ensures.log

use Rattle.std.proofs.Common.{rules}
use Rattle.part_store.specs.Solo.{solo_number}
use Rattle.part_store.proofs.Served.{verify-served}
use Rattle.part_store.proofs.solo.SoloFileDesk.verify.Goals as goal

pub returns : goal.returns
returns g c = record { answers = record { same = search rules; served = verify-served _ solo_number _ c.args.part _ _ (g.V.Vault.files c.args.self.now.file.vault) (g.V.Vault.files c.verify.new.self.vault) c.verify.result c.verify.ensures.answer c.verify.ensures.judged c.verify.ensures.files; cause = search rules } }

use Rattle.std.proofs.Common.{rules}
use Rattle.part_store.specs.Solo.{solo_number}
use Rattle.part_store.proofs.Served.{hashes-served}
use Rattle.part_store.proofs.solo.SoloFileDesk.hashes.Goals as goal

pub returns : goal.returns
returns g c = record { answers = record { same = search rules; served = hashes-served _ solo_number _ c.args.set _ _ (g.V.Vault.files c.args.self.now.file.vault) (g.V.Vault.files c.hashes.new.self.vault) c.hashes.result c.hashes.ensures.answer c.hashes.ensures.log c.hashes.ensures.files; cause = search rules } }

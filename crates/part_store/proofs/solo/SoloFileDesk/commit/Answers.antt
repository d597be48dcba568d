use Rattle.std.proofs.Common.{rules}
use Rattle.part_store.specs.Solo.{solo_number}
use Rattle.part_store.proofs.Served.{commit-served}
use Rattle.part_store.proofs.solo.SoloFileDesk.commit.Goals as goal

pub returns : goal.returns
returns g c = record { answers = record { same = search rules; served = commit-served _ solo_number _ c.args.self.now.file.log _ (g.V.Vault.files c.args.self.now.file.vault) (g.V.Vault.files c.commit.new.self.vault) c.commit.result c.commit.ensures.refused c.commit.ensures.log c.commit.ensures.files; cause = search rules } }

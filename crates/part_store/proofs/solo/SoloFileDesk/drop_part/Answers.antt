use Rattle.std.proofs.Common.{rules}
use Rattle.part_store.specs.Solo.{solo_number}
use Rattle.part_store.proofs.Served.{dropped-served}
use Rattle.part_store.proofs.solo.SoloFileDesk.drop_part.Goals as goal

pub returns : goal.returns
returns g c = record { answers = record { same = search rules; served = dropped-served _ solo_number _ c.args.part _ _ (g.V.Vault.files c.args.self.now.file.vault) (g.V.Vault.files c.drop_part.new.self.vault) c.drop_part.result c.drop_part.ensures.answer c.drop_part.ensures.log c.drop_part.ensures.files; cause = search rules } }

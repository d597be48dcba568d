use Rattle.std.proofs.Common.{rules}
use Rattle.part_store.specs.Solo.{solo_number}
use Rattle.part_store.proofs.Served.{write-served}
use Rattle.part_store.proofs.solo.SoloFileDesk.write.Goals as goal

pub returns : goal.returns
returns g c = record { answers = record { same = search rules; served = write-served c.args.self.now.file.aim solo_number _ c.args.at c.args.piece.now _ c.write.new.self.log (g.V.Vault.files c.args.self.now.file.vault) (g.V.Vault.files c.write.new.self.vault) c.write.result c.write.ensures.answer c.write.ensures.log c.write.ensures.full c.write.ensures.body; cause = search rules } }

use Rattle.std.proofs.Common.{rules}
use Rattle.part_store.specs.Solo.{solo_number}
use Rattle.part_store.proofs.Served.{reserve-served}
use Rattle.part_store.proofs.solo.SoloFileDesk.reserve.Goals as goal

pub returns : goal.returns
returns g c = record { answers = record { same = search rules; served = reserve-served c.args.self.now.file.aim solo_number _ c.args.self.now.file.log _ (g.V.Vault.files c.args.self.now.file.vault) (g.V.Vault.files c.reserve.new.self.vault) c.reserve.result c.reserve.ensures.answer c.reserve.ensures.log c.reserve.ensures.spans c.reserve.ensures.files; cause = search rules } }

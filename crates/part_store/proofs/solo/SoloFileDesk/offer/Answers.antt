use Rattle.std.proofs.Common.{rules}
use Rattle.part_store.specs.Solo.{solo_number}
use Rattle.part_store.proofs.Served.{offer-served}
use Rattle.part_store.proofs.solo.SoloFileDesk.offer.Goals as goal

pub returns : goal.returns
returns g c = record { answers = record { same = search rules; served = offer-served _ solo_number _ c.args.bits _ _ (g.V.Vault.files c.args.self.now.file.vault) (g.V.Vault.files c.offer.new.self.vault) c.offer.result c.offer.ensures.answer c.offer.ensures.log c.offer.ensures.files; cause = search rules } }

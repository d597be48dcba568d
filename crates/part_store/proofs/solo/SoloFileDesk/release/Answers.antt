use Rattle.std.proofs.Common.{ap}
use Rattle.part_store.specs.Solo.{solo_number}
use Rattle.part_store.proofs.Served.{release-served, released-free, released-quiet}
use Rattle.part_store.proofs.solo.SoloFileDesk.release.Goals as goal

pub returns-clause-served : goal.returns-clause-served
returns-clause-served g c = release-served _ solo_number _ c.args.self.now.file.broken c.args.self.now.file.log _ (g.V.Vault.files c.args.self.now.file.vault) (g.V.Vault.files c.release.new.self.vault) c.release.ensures.log (ap g.V.Vault.files c.release.ensures.vault)

pub returns-clause-quiet : goal.returns-clause-quiet
returns-clause-quiet g c = released-quiet c.args.self.now.file.log c.release.new.self.log solo_number _ c.args.self.now.file.broken c.release.ensures.log

pub returns-clause-free : goal.returns-clause-free
returns-clause-free g c = released-free c.args.self.now.file.log c.release.new.self.log solo_number _ c.args.self.now.file.broken c.release.ensures.log

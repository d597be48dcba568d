use Rattle.shared_file.proofs.Turns.{release_free, release_steps}
use Rattle.shared_file.proofs.common.Common.release.Goals as goal

pub returns-clause-steps : goal.returns-clause-steps
returns-clause-steps g c = release_steps c.args.number _ c.args.self.now.file c.release.new.self c.release.ensures.store c.release.ensures.log

pub returns-clause-free : goal.returns-clause-free
returns-clause-free g c fails = release_free c.args.number _ c.args.self.now.file.log c.release.new.self.log c.args.self.now.file.broken c.release.new.self.broken c.release.ensures.store c.release.ensures.log fails

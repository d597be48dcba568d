use Rattle.std.proofs.Common.{ap, ◌∙◌}
use Rattle.md4_hash.specs.Md4.{after, start}
use Rattle.md4_hash.proofs.hasher.Md4.registers.Goals as goal

pub returns : goal.returns
returns c = c.self.invariant.taken ∙ ap (after start) c.self.view_is

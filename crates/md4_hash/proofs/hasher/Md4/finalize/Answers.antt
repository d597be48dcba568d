use Rattle.std.proofs.Common.{refl, ap, ◌∙◌}
use Rattle.md4_hash.specs.Md4.{md4}
use Rattle.md4_hash.proofs.Pieces.{Holds-digest}
use Rattle.md4_hash.proofs.hasher.Md4.finalize.Goals as goal

pub returns : goal.returns
returns c = c.finish.ensures ∙ Holds-digest _ _ _ _ _ c.self.invariant refl ∙ ap md4 c.self.view_is

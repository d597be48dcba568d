use Rattle.std.proofs.Common.{refl}
use Rattle.md4_hash.proofs.Pieces.{Holds-append}
use Rattle.md4_hash.proofs.hasher.Md4.update.Goals as goal

pub invariant_of-self : goal.invariant_of-self
invariant_of-self c =
    rw c.note.ensures
    (Holds-append _ _ _ _ _ c.args.piece.now _ _ _ c.self.invariant refl c.absorb.ensures.taken c.absorb.ensures.rest refl)

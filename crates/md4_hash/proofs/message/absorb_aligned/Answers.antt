use Rattle.md4_hash.proofs.Pieces.{after-whole}
use Rattle.md4_hash.proofs.message.absorb_aligned.Goals as goal

pub returns-clause-taken : goal.returns-clause-taken
returns-clause-taken c =
    rw (c.take_blocks.ensures, c.split_at.ensures.front) (after-whole c.args.registers.now c.args.piece.now)

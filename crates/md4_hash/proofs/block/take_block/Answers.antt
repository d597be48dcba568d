use Rattle.std.proofs.Common.{refl}
use Rattle.md4_hash.specs.Md4.{after_block}
use Rattle.md4_hash.proofs.block.take_block.Goals as goal

pub returns : goal.returns
unfolding after_block
returns c = rw (c.add_turned.ensures, c.round_3.ensures, c.round_2.ensures, c.round_1.ensures) refl

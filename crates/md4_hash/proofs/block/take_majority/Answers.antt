use Rattle.std.proofs.Common.{refl, slice_index}
use Rattle.std.specs.Prelude.{bit_and, bit_xor}
use Rattle.md4_hash.specs.Md4.{step}
use Rattle.md4_hash.proofs.Words.{sum_split, majority_sum}
use Rattle.md4_hash.proofs.block.take_majority.Goals as goal

pub returns : goal.returns
unfolding step
returns c =
    let v = c.args.registers.now in
    let x = slice_index v 1 in let y = slice_index v 2 in let z = slice_index v 3 in
    rw (c.rotate_left.ensures, majority_sum x y z, sum_split (slice_index v 0) (bit_and y z) (bit_and x (bit_xor y z)) c.args.x c.args.t) refl

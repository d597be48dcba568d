use Rattle.std.proofs.Common.{refl, slice_index}
use Rattle.md4_hash.specs.Md4.{step, parity}
use Rattle.md4_hash.proofs.Words.{sum_last, parity_turned}
use Rattle.md4_hash.proofs.block.take_parity.Goals as goal

pub returns : goal.returns
unfolding step
returns c =
    let v = c.args.registers.now in
    let b = slice_index v 1 in let d = slice_index v 3 in
    rw (c.rotate_left.ensures, parity_turned b (slice_index v 2) d, sum_last (slice_index v 0) (parity b (slice_index v 2) d) c.args.x c.args.t) refl

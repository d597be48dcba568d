use Rattle.std.proofs.Common.{refl, slice_index}
use Rattle.md4_hash.specs.Md4.{step, choice}
use Rattle.md4_hash.proofs.Words.{sum_first}
use Rattle.md4_hash.proofs.block.choose.Goals as goal

pub returns : goal.returns
unfolding step
returns c =
    let v = c.args.registers.now in
    rw (c.rotate_left.ensures, sum_first (slice_index v 0) (choice (slice_index v 1) (slice_index v 2) (slice_index v 3)) c.args.x) refl

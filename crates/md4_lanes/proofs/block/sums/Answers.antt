use Rattle.std.proofs.Common.{refl}
use Rattle.md4_lanes.proofs.block.sums.Goals as goal

pub returns : goal.returns
returns c = λ j lt.
    rw (c.add.ensures j lt, c.add-2.ensures j lt, c.add-3.ensures j lt, c.add-4.ensures j lt) refl

use Rattle.std.proofs.Common.{refl, slice_index}
use Rattle.md4_hash.specs.Md4.{step, parity}
use Rattle.md4_hash.proofs.Words.{sum_last}
use Rattle.md4_lanes.specs.Lanes.{four}
use Rattle.md4_lanes.proofs.block.take_parity.Goals as goal

pub returns : goal.returns
unfolding step
returns c = λ j lt m words.
    let v = four j c.args.v in
    rw (
      c.turn.ensures j lt,
      c.add-sum.ensures j lt,
      c.add-with_root.ensures j lt,
      c.add-with_word.ensures j lt,
      c.same.ensures j lt,
      c.parity.ensures j lt,
      words c.args.k c.requires.word,
      sum_last (slice_index v 0) (parity (slice_index v 1) (slice_index v 2) (slice_index v 3)) _ _,
    ) refl

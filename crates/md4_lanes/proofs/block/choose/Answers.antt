use Rattle.std.proofs.Common.{refl, slice_index}
use Rattle.md4_hash.specs.Md4.{step, choice}
use Rattle.md4_hash.proofs.Words.{sum_first}
use Rattle.md4_lanes.specs.Lanes.{four}
use Rattle.md4_lanes.proofs.block.choose.Goals as goal

pub returns : goal.returns
unfolding step
returns c = λ j lt m words.
    let v = four j c.args.v in
    rw (
      c.turn.ensures j lt,
      c.add-sum.ensures j lt,
      c.add-with_word.ensures j lt,
      c.choice.ensures j lt,
      words c.args.k c.requires.word,
      sum_first (slice_index v 0) (choice (slice_index v 1) (slice_index v 2) (slice_index v 3)) _,
    ) refl

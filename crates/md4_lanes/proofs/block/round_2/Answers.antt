use Rattle.std.proofs.Common.{refl}
use Rattle.md4_lanes.proofs.block.round_2.Goals as goal

pub returns : goal.returns
returns c = λ j lt m words. rw (c.take_majority.ensures j lt m words, c.take_majority-v15.ensures j lt m words, c.take_majority-v14.ensures j lt m words, c.take_majority-v13.ensures j lt m words, c.take_majority-v12.ensures j lt m words, c.take_majority-v11.ensures j lt m words, c.take_majority-v10.ensures j lt m words, c.take_majority-v9.ensures j lt m words, c.take_majority-v8.ensures j lt m words, c.take_majority-v7.ensures j lt m words, c.take_majority-v6.ensures j lt m words, c.take_majority-v5.ensures j lt m words, c.take_majority-v4.ensures j lt m words, c.take_majority-v3.ensures j lt m words, c.take_majority-v2.ensures j lt m words, c.take_majority-v1.ensures j lt m words) refl

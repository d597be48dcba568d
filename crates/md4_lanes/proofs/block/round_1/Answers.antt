use Rattle.std.proofs.Common.{refl}
use Rattle.md4_lanes.proofs.block.round_1.Goals as goal

pub returns : goal.returns
returns c = λ j lt m words. rw (c.choose.ensures j lt m words, c.choose-v15.ensures j lt m words, c.choose-v14.ensures j lt m words, c.choose-v13.ensures j lt m words, c.choose-v12.ensures j lt m words, c.choose-v11.ensures j lt m words, c.choose-v10.ensures j lt m words, c.choose-v9.ensures j lt m words, c.choose-v8.ensures j lt m words, c.choose-v7.ensures j lt m words, c.choose-v6.ensures j lt m words, c.choose-v5.ensures j lt m words, c.choose-v4.ensures j lt m words, c.choose-v3.ensures j lt m words, c.choose-v2.ensures j lt m words, c.choose-v1.ensures j lt m words) refl

use Rattle.std.proofs.Common.{refl}
use Rattle.md4_lanes.proofs.block.round_3.Goals as goal

pub returns : goal.returns
returns c = λ j lt m words. rw (c.take_parity.ensures j lt m words, c.take_parity-v15.ensures j lt m words, c.take_parity-v14.ensures j lt m words, c.take_parity-v13.ensures j lt m words, c.take_parity-v12.ensures j lt m words, c.take_parity-v11.ensures j lt m words, c.take_parity-v10.ensures j lt m words, c.take_parity-v9.ensures j lt m words, c.take_parity-v8.ensures j lt m words, c.take_parity-v7.ensures j lt m words, c.take_parity-v6.ensures j lt m words, c.take_parity-v5.ensures j lt m words, c.take_parity-v4.ensures j lt m words, c.take_parity-v3.ensures j lt m words, c.take_parity-v2.ensures j lt m words, c.take_parity-v1.ensures j lt m words) refl

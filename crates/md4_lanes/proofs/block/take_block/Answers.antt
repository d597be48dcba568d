use Rattle.std.proofs.Common.{List, ℕ, ap, ◌∙◌}
use Rattle.md4_hash.specs.Md4.{after_block, round_2, round_3, sums}
use Rattle.sha1_lanes.specs.Lanes.{pick}
use Rattle.md4_lanes.specs.Lanes.{four}
use Rattle.md4_lanes.proofs.block.take_block.Goals as goal

pub returns : goal.returns
unfolding after_block
returns c = λ j lt.
    let b = pick j c.args.b0.now c.args.b1.now c.args.b2.now c.args.b3.now in
    let words = c.load_block-w.ensures j lt in
    c.sums.ensures j lt
    ∙ ap (λ (after : List ℕ). sums (four j c.args.registers.now) after)
    (c.round_3-third.ensures j lt b words
    ∙ ap (round_3 b) (c.round_2-second.ensures j lt b words ∙ ap (round_2 b) (c.round_1-first.ensures j lt b words)))

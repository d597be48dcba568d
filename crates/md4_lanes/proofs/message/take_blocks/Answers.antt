use Rattle.std.proofs.Common.{◌≡◌, ℕ, List, ◌+◌, ◌-◌, ◌*◌, ◌/◌, length, take, drop, refl, arith, ap, ◌∙◌, sym}
use Rattle.md4_hash.specs.Md4.{after, after_blocks}
use Rattle.md4_hash.proofs.Blocks.{after_blocks_next}
use Rattle.sha1_lanes.specs.Lanes.{pick}
use Rattle.md4_lanes.specs.Lanes.{four}
use Rattle.sha1_lanes.proofs.LaneLemmas.{pick_each, below_four}
use Rattle.md4_lanes.proofs.message.take_blocks.Goals as goal

pub turns-init : goal.turns-init
unfolding after_blocks
turns-init c = λ j lt. refl

pub turns-preserved : goal.turns-preserved
turns-preserved c = λ j lt.
    let i = c.turns.i in
    let block : List ℕ → List ℕ = λ m. take 64 (drop (i * 64) m) in
    let width : i * 64 + 64 - i * 64 ≡ 64 = omega arith in
    let m = pick j c.args.m0.now c.args.m1.now c.args.m2.now c.args.m3.now in
    (rw width at c.take_block.ensures j lt)
    ∙ rw (pick_each block j lt c.args.m0.now c.args.m1.now c.args.m2.now c.args.m3.now, c.turns.invariant j lt) (sym (after_blocks_next (four j c.args.registers.now) m i))

pub returns : goal.returns
unfolding after
returns c = λ j lt.
    let m = pick j c.args.m0.now c.args.m1.now c.args.m2.now c.args.m3.now in
    let long : length m ≡ length c.args.m0.now =
    below_four (λ j. length (pick j c.args.m0.now c.args.m1.now c.args.m2.now c.args.m3.now) ≡ length c.args.m0.now) refl c.requires.second c.requires.third c.requires.fourth j lt in
    let all : c.turns.i ≡ length m / 64 = omega arith in
    c.turns.invariant j lt ∙ ap (after_blocks (four j c.args.registers.now) m) all

use Rattle.std.proofs.Common.{◌≡◌, ◌+◌, ◌-◌, ◌*◌, ◌/◌, length, refl, arith, ap, ◌∙◌}
use Rattle.md4_hash.specs.Md4.{after_blocks, after}
use Rattle.md4_hash.proofs.Blocks.{after_blocks_next}
use Rattle.md4_hash.proofs.message.take_blocks.Goals as goal

pub loop-i-init : goal.loop-i-init
unfolding after_blocks
loop-i-init c = refl

pub loop-i-preserved : goal.loop-i-preserved
loop-i-preserved c =
    let width : c.loop-i.i * 64 + 64 - c.loop-i.i * 64 ≡ 64 = omega arith in
    rw (c.take_block.ensures, width, c.loop-i.invariant, after_blocks_next c.args.registers.now c.args.bytes.now c.loop-i.i) refl

pub returns : goal.returns
unfolding after
returns c =
    let all : c.loop-i.i ≡ length c.args.bytes.now / 64 = omega arith in
    c.loop-i.invariant ∙ ap (after_blocks c.args.registers.now c.args.bytes.now) all

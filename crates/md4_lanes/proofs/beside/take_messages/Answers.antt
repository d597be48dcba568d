use Rattle.std.proofs.Common.{◌≡◌, ℕ, List, ◌+◌, ◌-◌, ◌*◌, ◌/◌, length, take, drop, refl, arith, ap, ◌∙◌, sym}
use Rattle.sha1.specs.Sha1.{hash_after}
use Rattle.sha1.proofs.Absorbing.{hash_after_next}
use Rattle.md4_hash.specs.Md4.{after, after_blocks}
use Rattle.sha1_lanes.specs.Lanes.{five, pick}
use Rattle.sha1_lanes.proofs.LaneLemmas.{pick_each}
use Rattle.md4_lanes.proofs.BesideLemmas.{after_blocks-four}
use Rattle.md4_lanes.proofs.beside.take_messages.Goals as goal

pub turns-init : goal.turns-init
unfolding after_blocks
turns-init c =
    record {
      sha1 = λ j lt. c.start-state.ensures j lt (pick j c.args.m0.now c.args.m1.now c.args.m2.now c.args.m3.now);
      md4 = refl;
    }

pub turns-preserved : goal.turns-preserved
turns-preserved c =
    let i = c.turns.i in
    let block : List ℕ → List ℕ = λ m. take 64 (drop (i * 64) m) in
    let width : i * 64 + 64 - i * 64 ≡ 64 = omega arith in
    let quad : 4 * (i * 64) + 256 - 4 * (i * 64) ≡ 256 = omega arith in
    let start : 4 * (i * 64) ≡ 4 * i * 64 = omega arith in
    let next : 4 * (i + 1) ≡ 4 * i + 4 = omega arith in
    record {
      sha1 = λ j lt.
          let m = pick j c.args.m0.now c.args.m1.now c.args.m2.now c.args.m3.now in
          (rw width at c.take_blocks.ensures.sha1 j lt)
          ∙ rw (pick_each block j lt c.args.m0.now c.args.m1.now c.args.m2.now c.args.m3.now, c.turns.invariant.sha1 j lt) (sym (hash_after_next m i));
      md4 =
          c.take_blocks.ensures.md4
          ∙ rw (c.turns.invariant.md4, quad, start, next)
          (after_blocks-four c.args.registers.now c.args.long.now (4 * i) (omega (arith, c.requires.long)));
    }

pub returns-clause-sha1 : goal.returns-clause-sha1
returns-clause-sha1 c = λ j lt.
    let m = pick j c.args.m0.now c.args.m1.now c.args.m2.now c.args.m3.now in
    let all : c.turns.i ≡ length c.args.m0.now / 64 = omega arith in
    c.turns.invariant.sha1 j lt ∙ ap (hash_after m) all

pub returns-clause-md4 : goal.returns-clause-md4
unfolding after
returns-clause-md4 c =
    let all : 4 * c.turns.i ≡ length c.args.long.now / 64 = omega (arith, c.requires.whole, c.requires.long) in
    c.turns.invariant.md4 ∙ ap (after_blocks c.args.registers.now c.args.long.now) all

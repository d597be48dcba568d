use Rattle.std.proofs.Common.{◌≡◌, ℕ, List, ◌+◌, ◌-◌, ◌*◌, ◌/◌, length, take, drop, arith, ap, ◌∙◌, sym}
use Rattle.sha1.specs.Sha1.{hash_after}
use Rattle.sha1.proofs.Absorbing.{hash_after_next}
use Rattle.sha1_lanes.specs.Lanes.{pick}
use Rattle.sha1_lanes.proofs.LaneLemmas.{pick_each}
use Rattle.sha1_lanes.proofs.digest.take_blocks.Goals as goal

pub turns-init : goal.turns-init
turns-init c = λ j lt. c.start-state.ensures j lt (pick j c.args.m0.now c.args.m1.now c.args.m2.now c.args.m3.now)

pub turns-preserved : goal.turns-preserved
turns-preserved c = λ j lt.
    let i = c.turns.i in
    let block : List ℕ → List ℕ = λ m. take 64 (drop (i * 64) m) in
    let width : i * 64 + 64 - i * 64 ≡ 64 = omega arith in
    let m = pick j c.args.m0.now c.args.m1.now c.args.m2.now c.args.m3.now in
    (rw width at c.compress.ensures j lt)
    ∙ rw (pick_each block j lt c.args.m0.now c.args.m1.now c.args.m2.now c.args.m3.now, c.turns.invariant j lt) (sym (hash_after_next m i))

pub returns : goal.returns
returns c = λ j lt.
    let m = pick j c.args.m0.now c.args.m1.now c.args.m2.now c.args.m3.now in
    let all : c.turns.i ≡ length c.args.m0.now / 64 = omega arith in
    c.turns.invariant j lt ∙ ap (hash_after m) all

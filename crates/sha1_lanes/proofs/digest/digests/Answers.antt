use Rattle.std.proofs.Common.{◌≡◌, ℕ, ◌<◌, length, refl}
use Rattle.sha1_lanes.specs.Lanes.{pick}
use Rattle.sha1_lanes.proofs.LaneLemmas.{below_four}
use Rattle.sha1_lanes.proofs.digest.digests.Goals as goal

pub returns : goal.returns
returns c =
    let long : (j : ℕ) → j < 4 → length (pick j c.args.m0.now c.args.m1.now c.args.m2.now c.args.m3.now) ≡ length c.args.m0.now =
    below_four _ refl c.requires.second c.requires.third c.requires.fourth in
    c.finish.ensures c.args.m0.now c.args.m1.now c.args.m2.now c.args.m3.now (λ j lt. (long j lt, c.take_blocks-state.ensures j lt))

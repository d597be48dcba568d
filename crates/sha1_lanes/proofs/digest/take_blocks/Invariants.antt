use Rattle.std.proofs.Common.{◌≡◌, ℕ, ◌<◌}
use Rattle.sha1.specs.Sha1.{hash_after}
use Rattle.sha1_lanes.specs.Lanes.{five, pick}
use Rattle.sha1_lanes.proofs.digest.take_blocks.Given as goal

abbrev pub invariant-turns : goal.invariant-turns
invariant-turns l = (j : ℕ) → j < 4 → five j l.state ≡ hash_after (pick j l.m0 l.m1 l.m2 l.m3) l.i

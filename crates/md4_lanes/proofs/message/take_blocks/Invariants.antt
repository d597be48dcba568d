use Rattle.std.proofs.Common.{◌≡◌, ℕ, ◌<◌}
use Rattle.md4_hash.specs.Md4.{after_blocks}
use Rattle.sha1_lanes.specs.Lanes.{pick}
use Rattle.md4_lanes.specs.Lanes.{four}
use Rattle.md4_lanes.proofs.message.take_blocks.Given as goal

abbrev pub invariant-turns : goal.invariant-turns
invariant-turns l = (j : ℕ) → j < 4 → four j l.registers ≡ after_blocks (four j l.initial.registers) (pick j l.m0 l.m1 l.m2 l.m3) l.i

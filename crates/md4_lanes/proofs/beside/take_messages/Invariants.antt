use Rattle.std.proofs.Common.{◌≡◌, ℕ, ◌*◌, ◌<◌}
use Rattle.md4_hash.specs.Md4.{after_blocks}
use Rattle.sha1.specs.Sha1.{hash_after}
use Rattle.sha1_lanes.specs.Lanes.{five, pick}
use Rattle.md4_lanes.proofs.beside.take_messages.Given as goal

abbrev pub invariant-turns : goal.invariant-turns
invariant-turns l =
    record {
      sha1 : (j : ℕ) → j < 4 → five j l.state ≡ hash_after (pick j l.m0 l.m1 l.m2 l.m3) l.i;
      md4 : l.registers ≡ after_blocks l.initial.registers l.long (4 * l.i);
    }

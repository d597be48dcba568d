use Rattle.std.proofs.Common.{◌≡◌}
use Rattle.md4_hash.specs.Md4.{after_blocks}
use Rattle.md4_hash.proofs.message.take_blocks.Given as goal

abbrev pub invariant-loop-i : goal.invariant-loop-i
invariant-loop-i l = l.registers ≡ after_blocks l.initial.registers l.bytes l.i

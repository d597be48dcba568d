use Rattle.std.proofs.Common.{◌≡◌}
use Rattle.client_msgs.specs.Lists.{bits_of}
use Rattle.client_msgs.proofs.lists.take_bits.Given as goal

abbrev pub invariant-loop-i : goal.invariant-loop-i
invariant-loop-i l = l.bits.items ≡ bits_of l.i l.bitmap

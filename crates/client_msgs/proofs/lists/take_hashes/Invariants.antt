use Rattle.std.proofs.Common.{◌≡◌}
use Rattle.client_msgs.specs.Lists.{hashes_of}
use Rattle.client_msgs.proofs.lists.take_hashes.Given as goal

abbrev pub invariant-loop-i : goal.invariant-loop-i
invariant-loop-i l = l.hashes.items ≡ hashes_of l.i l.bytes

use Rattle.std.proofs.Common.{◌≡◌, ◌++◌}
use Rattle.client_msgs.specs.Spelling.{bitmap_of}
use Rattle.client_msgs.proofs.write.append_bitmap.Given as goal

abbrev pub invariant-loop-k : goal.invariant-loop-k
invariant-loop-k l = l.out.items ≡ l.fn.out.items ++ bitmap_of l.k l.bits

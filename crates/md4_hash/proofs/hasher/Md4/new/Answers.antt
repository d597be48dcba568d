use Rattle.std.proofs.Common.{refl}
use Rattle.md4_hash.specs.Md4.{after, after_blocks}
use Rattle.md4_hash.proofs.hasher.Md4.new.Goals as goal

pub invariant_of-result : goal.invariant_of-result
unfolding after after_blocks
invariant_of-result c = rw c.new-2.ensures (record { taken = refl; rest = refl; count = refl })

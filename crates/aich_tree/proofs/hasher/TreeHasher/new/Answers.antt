use Rattle.std.proofs.Common.{refl, arith}
use Rattle.aich_tree.specs.Leaves.{ended_leaves, open_block}
use Rattle.aich_tree.proofs.hasher.TreeHasher.new.Goals as goal

pub invariant_of-result : goal.invariant_of-result
unfolding ended_leaves open_block
invariant_of-result c =
    rw (c.new.ensures.items, c.new-3.ensures)
    (record {
      sized = c.requires;
      fits = omega arith;
      counted = refl;
      holds = record { ended = refl; opened = c.new-2.ensures };
    })

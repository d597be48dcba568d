use Rattle.std.proofs.Common.{length, sym, ap, ◌∙◌}
use Rattle.aich_tree.specs.Leaves.{leaf_count}
use Rattle.aich_tree.proofs.LeafLemmas.{length-leaves_of}
use Rattle.aich_tree.proofs.nodes.Tree.new.Goals as goal

pub append_kept-root-requires-clause-count : goal.append_kept-root-requires-clause-count
append_kept-root-requires-clause-count c =
    ap length (c.deref.ensures.value ∙ c.requires.leaves)
    ∙ length-leaves_of c.args.fed.bytes
    ∙ ap leaf_count (sym c.requires.counted)

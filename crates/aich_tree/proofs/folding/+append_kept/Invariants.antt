use Rattle.aich_tree.proofs.folding.+append_kept.Given as goal

abbrev pub decreases-append_kept : goal.decreases-append_kept
decreases-append_kept l = l.n

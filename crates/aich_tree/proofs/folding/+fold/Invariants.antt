use Rattle.aich_tree.proofs.folding.+fold.Given as goal

abbrev pub decreases-fold : goal.decreases-fold
decreases-fold l = l.n

use Rattle.aich_packet.proofs.folding.+fold_way.Given as goal

abbrev pub decreases-fold_way : goal.decreases-fold_way
decreases-fold_way l = l.levels

use Rattle.ed2k_bench.proofs.hashes.hand_on.Given as goal

abbrev pub decreases-pieces : goal.decreases-pieces
decreases-pieces g l = l.left

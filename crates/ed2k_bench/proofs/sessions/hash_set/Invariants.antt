use Rattle.ed2k_bench.proofs.sessions.hash_set.Given as goal

abbrev pub decreases-pieces : goal.decreases-pieces
decreases-pieces l = l.left

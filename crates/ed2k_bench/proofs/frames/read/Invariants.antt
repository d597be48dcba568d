use Rattle.ed2k_bench.proofs.frames.read.Given as goal

abbrev pub decreases-streams : goal.decreases-streams
decreases-streams l = l.left

use Rattle.std.proofs.Common.{◌-◌}
use Rattle.ed2k_bench.proofs.sessions.append_file.Given as goal

abbrev pub decreases-pieces : goal.decreases-pieces
decreases-pieces l = l.size - l.start

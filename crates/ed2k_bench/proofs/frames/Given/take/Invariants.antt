use Rattle.std.proofs.Common.{length}
use Rattle.ed2k_bench.proofs.frames.Given.take.Given as goal

abbrev pub decreases-frames : goal.decreases-frames
decreases-frames l = length l.self.reader.rest

use Rattle.std.proofs.Common.{length}
use Rattle.server_index.specs.Files.{IsListed, IsSwept}
use Rattle.server_index.proofs.offers.settle.Given as goal

abbrev pub invariant-loop-spot : goal.invariant-loop-spot
invariant-loop-spot l = IsListed l.live.entries l.postings.set × IsSwept l.live.entries l.postings.set l.gone.items

abbrev pub decreases-loop-spot : goal.decreases-loop-spot
decreases-loop-spot l = length l.gone.items

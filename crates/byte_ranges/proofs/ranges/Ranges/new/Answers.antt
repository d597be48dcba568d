use Rattle.byte_ranges.proofs.Members.{set_of-none}
use Rattle.byte_ranges.proofs.ranges.Ranges.new.Goals as goal

pub returns-clause-set : goal.returns-clause-set
returns-clause-set c = rw c.new.ensures.items set_of-none

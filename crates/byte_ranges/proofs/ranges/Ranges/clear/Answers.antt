use Rattle.std.proofs.Common.{ap, ◌∙◌}
use Rattle.byte_ranges.specs.Spans.{set_of}
use Rattle.byte_ranges.proofs.Members.{set_of-none}
use Rattle.byte_ranges.proofs.ranges.Ranges.clear.Goals as goal

pub returns-clause-set : goal.returns-clause-set
returns-clause-set c = ap set_of c.clear.ensures.items ∙ set_of-none

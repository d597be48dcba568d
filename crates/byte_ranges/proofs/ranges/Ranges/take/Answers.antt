use Rattle.std.proofs.Common.{sym, ◌∙◌}
use Rattle.byte_ranges.proofs.Members.{difference-no_span}
use Rattle.byte_ranges.proofs.ranges.Ranges.take.Goals as goal

pub returns-else-not-is_empty-clause-set : goal.returns-else-not-is_empty-clause-set
returns-else-not-is_empty-clause-set c = difference-no_span _ c.args.span (sym c.is_empty.ensures ∙ c.if-not-is_empty.false)

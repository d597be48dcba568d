use Rattle.std.proofs.Common.{sym, ◌∙◌}
use Rattle.byte_ranges.proofs.FirstIn.{first_in_is}
use Rattle.byte_ranges.proofs.spans.first_in.Goals as goal

pub returns : goal.returns
returns c =
    first_in_is c.args.spans.now c.args.span _ _ (sym c.is_empty.ensures ∙ c.if-is_empty.false) c.requires c.ended-start.ensures.before c.ended-start.ensures.behind c.run_start.ensures

use Rattle.std.proofs.Common.{sym, ◌∙◌}
use Rattle.byte_ranges.proofs.Answered.{first_out_is}
use Rattle.byte_ranges.proofs.spans.first_out.Goals as goal

pub returns : goal.returns
returns c =
    first_out_is c.args.spans.now c.args.span _ _ _ (sym c.is_empty.ensures ∙ c.if-is_empty.false) c.requires c.ended-start.ensures.before c.ended-start.ensures.behind c.run_end-end.ensures c.then_some.ensures

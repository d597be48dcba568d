use Rattle.std.proofs.Common.{sym, ◌∙◌}
use Rattle.byte_ranges.proofs.Answered.{meets_is}
use Rattle.byte_ranges.proofs.spans.meets.Goals as goal

pub returns : goal.returns
returns c =
    meets_is c.args.spans.now c.args.span _ _ (sym c.is_empty.ensures ∙ c.if-is_empty.false) c.requires c.ended-start.ensures.before c.ended-start.ensures.behind c.begins_before.ensures

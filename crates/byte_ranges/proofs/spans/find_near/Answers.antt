use Rattle.byte_ranges.proofs.Lists.{AreApart-rest, near_of}
use Rattle.byte_ranges.proofs.spans.find_near.Goals as goal

pub begun-requires : goal.begun-requires
begun-requires c = AreApart-rest _ _ c.requires

pub returns-clause-near : goal.returns-clause-near
returns-clause-near c =
    near_of c.args.span _ _ _ c.ended-start.ensures.before c.ended-start.ensures.behind c.begun.ensures.before c.begun.ensures.behind

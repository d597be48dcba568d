use Rattle.byte_ranges.proofs.Lists.{put_apart, put_set}
use Rattle.byte_ranges.proofs.spans.put.Goals as goal

pub returns-clause-set : goal.returns-clause-set
returns-clause-set c =
    let found = c.find_near-start.ensures in
    put_set c.args.span _ _ _ _ _ _ _ c.requires.filled c.requires.apart
    (record { same = c.deref.ensures.value; order = found.order; within = found.within; near = found.near; whole_is = found.whole })
    c.remove.ensures.items c.insert.ensures.items

pub returns-clause-apart : goal.returns-clause-apart
returns-clause-apart c =
    let found = c.find_near-start.ensures in
    put_apart c.args.span _ _ _ _ _ _ _ c.requires.filled
    (record { same = c.deref.ensures.value; order = found.order; within = found.within; near = found.near; whole_is = found.whole })
    c.remove.ensures.items c.insert.ensures.items

use Rattle.byte_ranges.proofs.Lists.{cut_apart, cut_set, untouched_set}
use Rattle.byte_ranges.proofs.spans.cut.Goals as goal

pub returns-then-start-end-clause-set : goal.returns-then-start-end-clause-set
returns-then-start-end-clause-set c =
    let found = c.find_near-start.ensures in
    untouched_set c.args.span _ _ _ _ _ c.requires.filled c.requires.apart
    (record { same = c.deref.ensures.value; order = found.order; within = found.within; near = found.near; whole_is = found.whole })
    c.if-start-end.true

pub returns-clause-set : goal.returns-clause-set
returns-clause-set c =
    let found = c.find_near-start.ensures in
    cut_set c.args.span _ _ _ _ _ _ _ _ c.requires.filled c.requires.apart
    (record { same = c.deref.ensures.value; order = found.order; within = found.within; near = found.near; whole_is = found.whole })
    (record { gone_is = c.remove.ensures.items; some_is = c.insert.ensures.items; new_is = c.insert-2.ensures.items })

pub returns-clause-apart : goal.returns-clause-apart
returns-clause-apart c =
    let found = c.find_near-start.ensures in
    cut_apart c.args.span _ _ _ _ _ _ _ _ c.requires.filled
    (record { same = c.deref.ensures.value; order = found.order; within = found.within; near = found.near; whole_is = found.whole })
    (record { gone_is = c.remove.ensures.items; some_is = c.insert.ensures.items; new_is = c.insert-2.ensures.items })

use Rattle.reserve_core.proofs.Choosing.{free-covered, free-none, free-some, passed-held, passed-none}
use Rattle.reserve_core.proofs.choice.first_free.Goals as goal

pub loop-at-init : goal.loop-at-init
loop-at-init c = passed-none _ _ _

pub returns-in-None : goal.returns-in-None
returns-in-None c = free-covered c.args.filled.now.set c.args.holders.now c.args.span c.loop-at.at c.loop-at.invariant (c.in-None.ensures {u = tt})

pub returns-in-None-held_end : goal.returns-in-None-held_end
returns-in-None-held_end c = free-some c.args.filled.now.set c.args.holders.now c.args.span c.loop-at.at c.in-Some.start c.loop-at.invariant (c.in-Some.ensures {u = tt}) (c.in-None-held_end.ensures {u = tt})

pub loop-at-preserved : goal.loop-at-preserved
loop-at-preserved c = passed-held c.args.filled.now.set c.args.holders.now c.args.span c.loop-at.at c.in-Some.start c.in-Some-held_end.end c.loop-at.invariant (c.in-Some.ensures {u = tt}) (c.in-Some-held_end.ensures {u = tt})

pub returns : goal.returns
returns c = free-none c.args.filled.now.set c.args.holders.now c.args.span c.loop-at.at c.loop-at.invariant c.loop-at-test.false

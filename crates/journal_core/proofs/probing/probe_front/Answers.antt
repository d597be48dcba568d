use Rattle.std.proofs.Common.{arith}
use Rattle.journal_core.proofs.Fronts.{is-foreign, is-fresh, is-kept}
use Rattle.journal_core.proofs.probing.probe_front.Goals as goal

pub returns-then-front-place : goal.returns-then-front-place
returns-then-front-place c log long is =
    is-foreign log c.args.front.now c.loop-place.place c.loop-place-test.true c.loop-place.invariant c.if-front-place.true long is

pub returns-then-front-eq1 : goal.returns-then-front-eq1
returns-then-front-eq1 c log long is = is-kept log c.args.front.now (λ k lt. c.loop-place.invariant k (omega (arith, lt))) c.if-front-eq1.true long is

pub returns-else-front-eq1 : goal.returns-else-front-eq1
returns-else-front-eq1 c log long is = is-fresh log c.args.front.now (λ k lt. c.loop-place.invariant k (omega (arith, lt))) c.if-front-eq1.false long is

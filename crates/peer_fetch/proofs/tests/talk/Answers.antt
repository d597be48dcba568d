use Rattle.std.proofs.Common.{arith, subst}
use Rattle.peer_fetch.specs.Machine.{MaySay}
use Rattle.peer_fetch.specs.Moves.{as_next}
use Rattle.peer_fetch.specs.declared.link.Step.{Step}
use Rattle.peer_fetch.proofs.tests.talk.Goals as goal

pub step-step-requires-in-Ask : goal.step-step-requires-in-Ask
step-step-requires-in-Ask c =
    let aim = c.asks.link.core.session.aim in
    let may = subst (λ (step : Step). MaySay aim (as_next step) c.asks.link.core.at) c.in-Ask.is c.asks.invariant in
    let (asks, asking, offers, last) = may in
    (asking, c.in_ok-said-in-Ask.ensures aim (omega (arith, c.asks.link.core.size.0)))

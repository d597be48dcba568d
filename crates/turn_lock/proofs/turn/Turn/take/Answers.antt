use Rattle.std.proofs.Common.{ap}
use Rattle.turn_lock.proofs.Turns.{taken_row}
use Rattle.turn_lock.proofs.turn.Turn.take.Goals as goal

pub returns-clause-row : goal.returns-clause-row
returns-clause-row g c = taken_row _ _ _ _ _ _ _ _ _ _ c.await_turn.ensures.value.1 c.lift.ensures.value (ap (λ m. m.0.owned) c.draw_ticket-ticket.ensures.ticket) c.args.pass.now.numbered

use Rattle.std.proofs.Common.{rules, refl, ap, ◌∙◌}
use Rattle.turn_lock.proofs.Keeps.{draws_tickets}
use Rattle.turn_lock.proofs.turn.Turn.draw_ticket.Goals as goal

pub compare_exchange-requires : goal.compare_exchange-requires
compare_exchange-requires g c = (search rules, search rules, draws_tickets _ _ _ _ _ _ _ _ _ (ap (λ m. m.0.stage) c.loop.invariant.1 ∙ c.requires.idle) refl (search rules))

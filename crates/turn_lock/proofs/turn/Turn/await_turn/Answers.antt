use Rattle.std.proofs.Common.{rules, ap, ◌∙◌}
use Rattle.turn_lock.proofs.Keeps.{looks_at_turn}
use Rattle.turn_lock.proofs.turn.Turn.await_turn.Goals as goal

pub load-requires : goal.load-requires
load-requires g c = (search rules, search rules, looks_at_turn _ _ _ _ _ _ _ _ (ap (λ m. m.0.stage) c.loop.invariant.1 ∙ c.requires.waits))

use Rattle.std.proofs.Common.{rules, refl, ap, ◌∙◌}
use Rattle.turn_lock.specs.Views.{is_spent}
use Rattle.turn_lock.proofs.Keeps.{looks_at_numbers, draws_numbers}
use Rattle.turn_lock.proofs.turn.Turn.draw_number.Goals as goal

pub load-next-requires : goal.load-next-requires
load-next-requires g c = (search rules, search rules, looks_at_numbers _ _ _ _ _ _ _)

pub compare_exchange-requires : goal.compare_exchange-requires
compare_exchange-requires g c = (search rules, search rules, draws_numbers _ _ _ _ _ _ _ _ _ (ap (λ m. is_spent m.0.stage) c.loop.invariant.1 ∙ c.requires.live) (ap (λ m. m.0.owned) c.loop.invariant.1 ∙ c.requires.bare) refl)

use Rattle.std.proofs.Common.{refl, ap, ◌∙◌, Some, [], ◌∷◌, ◌++◌}
use Rattle.turn_lock.proofs.Keeps.{opens_lock}
use Rattle.turn_lock.proofs.turn.Turn.new.Goals as goal

pub new-requires : goal.new-requires
new-requires g c = opens_lock _ _ _ _ _ _ c.args.value c.of-about.ensures (c.in_default.ensures.items ∙ ap (λ l. l ++ Some c.args.value ∷ []) c.new-slots.ensures.items) refl refl refl c.booked.ensures refl

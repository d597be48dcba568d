use Rattle.std.proofs.Common.{ap, ◌∙◌, sym, Some, ◌∷◌}
use Rattle.atomic_table.specs.Table.{rest}
use Rattle.turn_lock.proofs.turn.Turn.lift.Goals as goal

pub exchange-slot-requires : goal.exchange-slot-requires
exchange-slot-requires g c = let x = c.requires.value in (c.requires.own, (Some x.0, x.1 ∙ ap (λ l. (0, Some x.0) ∷ rest l) (sym x.1)))

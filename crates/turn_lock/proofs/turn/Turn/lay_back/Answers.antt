use Rattle.std.proofs.Common.{rules, ap, ◌∙◌, Some, ◌∷◌}
use Rattle.atomic_table.specs.Table.{rest}
use Rattle.turn_lock.specs.Views.{lifted_in}
use Rattle.turn_lock.proofs.Keeps.{raises_count}
use Rattle.turn_lock.proofs.turn.Turn.lay_back.Goals as goal

pub store-requires : goal.store-requires
store-requires g c = let turn = c.requires.turn in (
  search rules,
  search rules,
  raises_count _ _ _ _ _ _ _ _ turn.0.0 turn.0.1 c.args.value _ c.args.pass.now.number c.args.self.now.sized.1
      (c.exchange-empty.ensures.3 ∙ ap (λ l. (c.args.pass.now.seat.me.0, (0, Some c.args.value) ∷ rest l)) turn.1)
      turn.0.2 c.booked-count.ensures c.requires.log c.requires.birth c.args.pass.now.numbered (c.requires.rows turn.0.1 (ap lifted_in turn.0.2)),
)

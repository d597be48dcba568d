use Rattle.std.proofs.Common.{ap, subst, sym, ◌∙◌, refl}
use Rattle.std.specs.Option.{IsSome}
use Rattle.turn_lock.specs.Views.{BeginsWith, first_from}
use Rattle.turn_lock.proofs.Turns.{ends_with_value, ended}
use Rattle.turn_lock.proofs.turn.Turn.close.Goals as goal

pub unwrap-requires : goal.unwrap-requires
unwrap-requires g c = let laid = c.lay_back.ensures.laid in
    let e = ends_with_value _ _ _ _ _ _ laid.0 _ _ _ (ap (λ m. m.0.stage) laid.1) c.close_with-closed.ensures.values.2 c.take-slot.ensures.value in subst (λ o. IsSome o) (sym e.1) refl

pub returns-clause-log : goal.returns-clause-log
returns-clause-log g c = let laid = c.lay_back.ensures.laid in
    let e = ended _ _ _ _ _ _ laid.0 _ _ _ _ _ _ (ap (λ m. m.0.stage) laid.1) c.close_with-closed.ensures.values.2 c.take-slot.ensures.value c.unwrap.ensures (ap (λ m. m.0.seen) laid.1)
    (ap (λ m. m.0.owned) laid.1 ∙ ap (λ l. first_from (g.T.Booked.rows c.take-value.result) l) c.take-value.ensures.rows.0) c.take-value.ensures.rows.1 in
    subst (λ l. BeginsWith l c.args.pass.seat.me.0.seen) (sym e.0) c.take-value.ensures.log.1

pub returns-clause-birth : goal.returns-clause-birth
returns-clause-birth g c = let laid = c.lay_back.ensures.laid in
    let e = ended _ _ _ _ _ _ laid.0 _ _ _ _ _ _ (ap (λ m. m.0.stage) laid.1) c.close_with-closed.ensures.values.2 c.take-slot.ensures.value c.unwrap.ensures (ap (λ m. m.0.seen) laid.1)
    (ap (λ m. m.0.owned) laid.1 ∙ ap (λ l. first_from (g.T.Booked.rows c.take-value.result) l) c.take-value.ensures.rows.0) c.take-value.ensures.rows.1 in
    e.1 ∙ (ap (λ m. m.0.birth) laid.1 ∙ c.take-value.ensures.same.0.1)

pub returns-clause-rows : goal.returns-clause-rows
returns-clause-rows g c = let laid = c.lay_back.ensures.laid in
    (ended _ _ _ _ _ _ laid.0 _ _ _ _ _ _ (ap (λ m. m.0.stage) laid.1) c.close_with-closed.ensures.values.2 c.take-slot.ensures.value c.unwrap.ensures (ap (λ m. m.0.seen) laid.1)
    (ap (λ m. m.0.owned) laid.1 ∙ ap (λ l. first_from (g.T.Booked.rows c.take-value.result) l) c.take-value.ensures.rows.0) c.take-value.ensures.rows.1).2

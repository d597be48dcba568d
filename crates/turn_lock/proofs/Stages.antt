-- How the stages of a pass stand to one another.
use Rattle.std.proofs.Common.{◌≡◌, ◌⊎◌, ℕ, Option, Some, None, List, [], ◌∷◌, refl, inl, inr}
use Rattle.std.specs.Option.{unwrap_or}
use Rattle.turn_lock.specs.declared.known.Stage.{Stage}
use Rattle.turn_lock.specs.declared.known.Stage.TheVariants.{Idle, Waits, Holds, Calls, Spent}
use Rattle.turn_lock.specs.Views.{ticket_of, called_of, lifted_in}
use Rattle.turn_lock.proofs.Lists.{none_some}

module _ {T : Type 0} where
  pub called_has_ticket : (stage : Stage T) (t : ℕ) → called_of stage ≡ Some t → ticket_of stage ≡ Some t
  called_has_ticket Idle t e = none_some t e
  called_has_ticket (Waits u) t e = none_some t e
  called_has_ticket (Holds u x) t e = e
  called_has_ticket (Calls u) t e = e
  called_has_ticket Spent t e = none_some t e

  -- a pass that has the value was called
  pub lifted_is_called : (stage : Stage T) → (lifted_in stage ≡ None) ⊎ ((t : ℕ) × (called_of stage ≡ Some t))
  lifted_is_called Idle = inl refl
  lifted_is_called (Waits t) = inl refl
  lifted_is_called (Holds t x) = inr (t, refl)
  lifted_is_called (Calls t) = inl refl
  lifted_is_called Spent = inl refl

  -- the ticket of a pass that has the value
  abbrev pub ticket_held : ℕ → Stage T → ℕ
  ticket_held d (Holds t x) = t
  ticket_held d _ = d

  -- the value in the slot that was taken last
  abbrev pub carried_value : T → List (ℕ × Option T) → T
  carried_value d [] = d
  carried_value d (c ∷ cs) = unwrap_or c.1 d

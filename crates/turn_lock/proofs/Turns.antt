-- What a whole turn, and the end of the lock, tell from their steps.
use Rattle.std.proofs.Common.{◌≡◌, ℕ, Option, Some, List, [], ◌∷◌, sym, ap, ◌∙◌, subst}
use mathlib.Core.Option.{some, some-injective}
use lib.ListN.{get_elem?}
use Rattle.atomic_table.specs.Table.{Final, Seen}
use Rattle.turn_lock.specs.declared.known.Known.{Known}
use Rattle.turn_lock.specs.declared.known.Stage.TheVariants.{Calls}
use Rattle.turn_lock.specs.Views.{Agrees, first_number, first_row, first_from}
use Rattle.turn_lock.specs.Rule.{Kept}
use Rattle.turn_lock.specs.Steps.{Place, lifts}
use Rattle.turn_lock.proofs.Lists.{some_same, first_row_agrees, first_from_same}
use Rattle.turn_lock.proofs.Stages.{carried_value}
use Rattle.turn_lock.proofs.Keeps.{ends}

module _ {T E I : Type 0} (birth : T → List ℕ) (log : T → List E) (rows : T → ℕ → List I) where
  -- the value that was taken out is the one that was lifted, so it has the row of the pass
  pub taken_row : (ticket number : ℕ) (m : Place T E I) (x : T) (m' : Place T E I) (y : T) (owned : List (ℕ × List I)) → lifts rows birth log ticket m x m' → m'.1 ≡ (0, Some y) ∷ []
      → m.0.owned ≡ owned → first_number owned ≡ Some number → first_row owned ≡ rows y number
  taken_row ticket number m x m' y owned lifted slot same first = let is : x ≡ y = ap (carried_value x) (sym (ap (λ (p : Place T E I). p.1) lifted.0) ∙ slot) in
      first_row_agrees (rows y) owned number (subst (λ (l : List (ℕ × List I)). Agrees (rows y) l) same (subst (λ (z : T). Agrees (rows z) m.0.owned) is lifted.1.same_rows)) first

  module _ (first : T) where
    -- what the slot has at the end is a value
    pub ends_with_value : (id : ℕ) (v : Known T E I) (ticket : ℕ) (ws : List ℕ) (xs : List (Option T)) (slot : Option T) → v.stage ≡ Calls ticket → Final (Seen (Kept birth log rows first) id v) ws xs
        → get_elem? xs 0 ≡ some slot → (y : T) × (slot ≡ Some y) × (log y ≡ v.seen) × (birth y ≡ v.birth) × Agrees (rows y) v.owned
    ends_with_value id v ticket ws xs slot calls final there = let e = ends birth log rows first id v ticket ws xs calls final in
        (e.0, some-injective slot (Some e.0) (sym there ∙ e.1), e.2, e.3, e.4)

    -- the value has the log that was seen last, the birth and the rows that the pass knows
    pub ended : (id : ℕ) (v : Known T E I) (ticket : ℕ) (ws : List ℕ) (xs : List (Option T)) (slot : Option T) (result value : T) (owned : List (ℕ × List I)) → v.stage ≡ Calls ticket
        → Final (Seen (Kept birth log rows first) id v) ws xs → get_elem? xs 0 ≡ some slot → slot ≡ Some result → v.seen ≡ log value → v.owned ≡ first_from (rows value) owned → Agrees (rows value) owned
        → (log result ≡ log value) × (birth result ≡ v.birth) × Agrees (rows result) owned
    ended id v ticket ws xs slot result value owned calls final there is seen owns agrees = let e = ends_with_value id v ticket ws xs slot calls final there in
        let same : e.0 ≡ result = some_same e.0 result (sym e.1 ∙ is) in (
          ap log (sym same) ∙ (e.2 ∙ seen),
          ap birth (sym same) ∙ e.3,
          subst (λ (l : List (ℕ × List I)). Agrees (rows result) l) (owns ∙ first_from_same (rows value) owned agrees) (subst (λ (z : T). Agrees (rows z) v.owned) same e.4),
        )

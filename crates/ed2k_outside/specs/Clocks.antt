-- What a clock that is set answers.
use Rattle.std.specs.Prelude.{◌≡◌, ℕ, List, [], ◌∷◌}

-- the next second is answered, the last one again and again, and 0 where there is none
abbrev pub Ticks : ℕ → List ℕ → List ℕ → Type 0
Ticks second [] new = (second ≡ 0) × (new ≡ [])
Ticks second (x ∷ []) new = (second ≡ x) × (new ≡ x ∷ [])
Ticks second (x ∷ y ∷ later) new = (second ≡ x) × (new ≡ y ∷ later)

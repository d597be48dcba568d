-- A gate in a log file, and what stands behind it.
use Rattle.std.specs.Prelude.{◌≡◌, ◌≢◌, ◌⊎◌, ℕ, List, [], ◌∷◌, ◌++◌}

-- there is a gate, and it is closed: only 1 is open
abbrev pub IsClosed : List ℕ → Type 0
IsClosed [] = ⊥
IsClosed (gate ∷ rest) = gate ≢ 1

-- these bytes, and then a closed gate; what stands behind it doesn't matter
pub record EndsAt (front log : List ℕ) : Type 0 where
  pub tail : List ℕ
  pub closed : IsClosed tail
  pub whole : log ≡ front ++ tail

-- these bytes, an open gate, the text behind it, and then a closed gate
pub record Grown (front text log : List ℕ) : Type 0 where
  pub tail : List ℕ
  pub closed : IsClosed tail
  pub whole : log ≡ front ++ 1 ∷ (text ++ tail)

-- the log before a record was added, or after it
abbrev pub IsEither : List ℕ → List ℕ → List ℕ → Type 0
IsEither front text log = EndsAt front log ⊎ Grown front text log

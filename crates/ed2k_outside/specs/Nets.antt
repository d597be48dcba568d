-- What a net tells of its wires, and what each call does to it.
use Rattle.std.specs.Prelude.{◌≡◌, ℕ, ◌+◌, ◌<◌, ◌≤◌, List, [], ◌∷◌, ◌++◌, length, None, Some}
use Rattle.std.specs.declared.option.Option.{Option}
use Rattle.ed2k_outside.specs.declared.addr.Addr.{Addr}

pub record Told (W : Type 0) : Type 0 where
  -- the wires left, each with the address that `accept` answers beside it
  pub left : List (W × Addr)
  -- the wires given back
  pub closed : List W
  -- the number of wires handed out
  pub handed : ℕ
  -- the addresses of the connects that answered a wire
  pub reached : List Addr
  -- the last port that `listen` took
  pub listened : Option ℕ

-- a net of these wires of which no call was made
abbrev pub uncalled : {W : Type 0} → List (W × Addr) → Told W
uncalled wires = record { left = wires; closed = []; handed = 0; reached = []; listened = None }

abbrev pub Listens : {W : Type 0} → ℕ → Told W → Told W → Type 0
Listens port old new = new ≡ record old { listened = Some port }

-- the first wire left is handed out, and the address is one more reached
pub record Connects {W : Type 0} (to : Addr) (wire : W) (old new : Told W) : Type 0 where
  pub first : (from : Addr) × (old.left ≡ (wire, from) ∷ new.left)
  pub rest : new ≡ record old { left = new.left; handed = old.handed + 1; reached = old.reached ++ to ∷ [] }

-- the first wire left is handed out with its address
pub record Accepts {W : Type 0} (next : W × Addr) (old new : Told W) : Type 0 where
  pub first : old.left ≡ next ∷ new.left
  pub rest : new ≡ record old { left = new.left; handed = old.handed + 1 }

-- the wire is given back, where fewer were given back than handed out
pub record Closes {W : Type 0} (wire : W) (old new : Told W) : Type 0 where
  pub taken : length old.closed < old.handed → new ≡ record old { closed = old.closed ++ wire ∷ [] }
  pub surplus : old.handed ≤ length old.closed → new ≡ old

-- no wire is left, and nothing changes
abbrev pub IsOver : {W : Type 0} → Option (Told W) → Option (Told W) → Type 0
IsOver None new = ⊥
IsOver (Some old) new = (old.left ≡ []) × (new ≡ Some old)

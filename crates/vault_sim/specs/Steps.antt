-- What calls did to one file, and what a crash may leave of it.
use Rattle.std.specs.Prelude.{◌≡◌, ◌≤◌, ⊤, ℕ, List, [], ◌∷◌, length, take, refl}
use Rattle.std.specs.Coded.{Coded-set, coded_list, coded_ℕ, le_prop}
use Rattle.ed2k_outside.specs.Crashes.{Torn, Stretched}
use Rattle.ed2k_outside.specs.Files.{overwritten}
use Rattle.vault_sim.specs.declared.step.Asked.{Asked}
use Rattle.vault_sim.specs.declared.step.Asked.TheVariants.{Write, Length}
use Rattle.vault_sim.specs.declared.step.Step.{Step}

-- what a crash in this call may make of the old file
abbrev pub MayLeave : Asked → List ℕ → List ℕ → Type 0
MayLeave (Write at n) old new = Torn at n old new
MayLeave (Length n) old new = Stretched n old new

-- what the calls, the oldest first, may make of the old file, each cut short in its own way
abbrev pub Reaches : List Asked → List ℕ → List ℕ → Type 0
Reaches [] old new = new ≡ old
Reaches (asked ∷ later) old new = (mid : List ℕ) × MayLeave asked old mid × Reaches later mid new

-- what the steps asked
abbrev pub asked_of : List Step → List Asked
asked_of [] = []
asked_of (step ∷ later) = step.asked ∷ asked_of later

-- the file that was read before the call
abbrev pub before : Step → List ℕ → List ℕ
before step now = overwritten (take step.len now) step.at step.lost.items

-- the file that was read before all of these calls, the oldest first
abbrev pub unmade : List Step → List ℕ → List ℕ
unmade [] now = now
unmade (step ∷ later) now = before step (unmade later now)

-- each call may have made the file that was read after it of the one before, and can be undone
abbrev pub IsLegal : List Step → List ℕ → Type 0
IsLegal [] now = ⊤
IsLegal (step ∷ later) now =
    MayLeave step.asked (unmade (step ∷ later) now) (unmade later now) × (step.at ≤ length (take step.len (unmade later now))) × IsLegal later now

bytes_set : IsSet (List ℕ)
bytes_set = Coded-set (coded_list coded_ℕ)

Torn-prop : (at n : ℕ) (old new : List ℕ) → IsProp (Torn at n old new)
Torn-prop at n old new = hlevel (bytes_set, le_prop)

Stretched-prop : (n : ℕ) (old new : List ℕ) → IsProp (Stretched n old new)
Stretched-prop n old new = hlevel (bytes_set, le_prop)

MayLeave-prop : (asked : Asked) (old new : List ℕ) → IsProp (MayLeave asked old new)
MayLeave-prop (Write at n) old new = Torn-prop at n old new
MayLeave-prop (Length n) old new = Stretched-prop n old new

pub IsLegal-prop : (steps : List Step) (now : List ℕ) → IsProp (IsLegal steps now)
IsLegal-prop [] now = hlevel
IsLegal-prop (step ∷ later) now = hlevel (le_prop, MayLeave-prop, IsLegal-prop later now)

-- what is read is what a crash may leave
pub told : (steps : List Step) (now : List ℕ) → IsLegal steps now → Reaches (asked_of steps) (unmade steps now) now
told [] now legal = refl
told (step ∷ later) now legal = (unmade later now, legal.0, told later now legal.2)

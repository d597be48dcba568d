-- What a crash may leave of the files of a vault.
use Rattle.std.specs.Prelude.{◌≡◌, ◌⊎◌, ℕ, ◌+◌, ◌≤◌, min, max, List, length, take, drop, None, Some, IfSome, IsTrue, false}
use Rattle.std.proofs.lemmas.Bool.{false≢true}
use Rattle.std.specs.declared.option.Option.{Option}
use Rattle.ed2k_outside.specs.declared.vault.Which.{Which}
use Rattle.ed2k_outside.specs.Files.{Files, file_of}

-- a write of n bytes that may be cut short: any bytes in its range, the same elsewhere, and a length between
-- the old and the new
pub record Torn (at n : ℕ) (old new : List ℕ) : Type 0 where
  pub before : take at new ≡ take at old
  pub after : drop (at + n) new ≡ drop (at + n) old
  pub no_shorter : length old ≤ length new
  pub no_longer : length new ≤ max (length old) (at + n)

-- a change of the length to n that may be cut short: a length between the old and the new, any bytes past the
-- old end, and the same before it
pub record Stretched (n : ℕ) (old new : List ℕ) : Type 0 where
  pub no_shorter : min n (length old) ≤ length new
  pub no_longer : length new ≤ max n (length old)
  pub front : take (length old) new ≡ take (length new) old

abbrev pub Stays : Files → Files → Type 0
Stays old new = new ≡ old

-- the pairs of files that a crash now may leave, and those that one at any moment since so many calls were made may have left
pub record CrashView : Type 1 where
  pub image : Files → Type 0
  pub since : ℕ → Files → Type 0

-- a crash during or after a call leaves what one before it may have left, after a step
pub record Crashes (step : Files → Files → Type 0) (made : ℕ) (old new : CrashView) : Type 0 where
  pub image : (c : Files) → new.image c → (d : Files) × old.image d × step d c
  pub since : (t : ℕ) (c : Files) → t ≤ made → new.since t c → old.since t c ⊎ ((d : Files) × old.image d × step d c)

-- a crash leaves of this file what a read gives
abbrev pub IsDurable : Which → Option Files → CrashView → Type 0
IsDurable which files crash = (c : Files) → crash.image c → IfSome files (λ now. file_of which c ≡ file_of which now)

-- the bytes are told, and a crash may leave them
abbrev pub TellsImage : Option Files → CrashView → Type 0
TellsImage None crash = ⊥
TellsImage (Some files) crash = crash.image files

-- a vault that isn't honest owes nothing
pub untold : {T : Type 0} → IsTrue false → T
untold is = absurd (false≢true is)

-- of a vault that isn't honest nothing is said
abbrev pub shut : CrashView
shut = record { image = λ _. ⊥; since = λ _ _. ⊥ }

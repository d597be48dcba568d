-- What it is to add a record to a log file.
use Rattle.std.specs.Prelude.{◌≡◌, ℕ, List, [], ◌∷◌, ◌++◌, length, Option, Some, None, IfSome}
use Rattle.ed2k_outside.specs.Crashes.{CrashView}
use Rattle.ed2k_outside.specs.Files.{Files}
use Rattle.journal_core.specs.Gates.{EndsAt, IsEither}

-- the bytes up to the gate where the log ends, and the record that is to be added, whose next gate is closed
pub record IsMeant (gate : ℕ) (spelled : List ℕ) (files : Option Files) (front text : List ℕ) : Type 0 where
  pub at : gate ≡ length front
  pub closed : spelled ≡ text ++ 0 ∷ []
  pub ends : IfSome files (λ files. EndsAt front files.log)

-- the body is one that a crash might have left before, and the log has the record or hasn't
pub record MayHave (before : CrashView) (front text : List ℕ) (c : Files) : Type 0 where
  pub was : Files
  pub there : before.image was
  pub body : c.body ≡ was.body
  pub log : IsEither front text c.log

-- the bytes of the body, where the vault tells its files
abbrev pub body_of : Option Files → Option (List ℕ)
body_of None = None
body_of (Some files) = Some files.body

-- the bytes of the log, where the vault tells its files
abbrev pub log_of : Option Files → Option (List ℕ)
log_of None = None
log_of (Some files) = Some files.log

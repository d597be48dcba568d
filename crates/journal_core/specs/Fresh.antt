-- A log file that no store was made in.
use Rattle.std.specs.Prelude.{◌≡◌, ◌⊎◌, ℕ, ◌≤◌, List, [], ◌∷◌, ◌++◌, length}
use Rattle.ed2k_outside.specs.Crashes.{CrashView}
use Rattle.ed2k_outside.specs.Files.{Files}
use Rattle.journal_core.specs.Gates.{EndsAt}
use Rattle.journal_core.specs.Headers.{AreFields, magic}
use Rattle.journal_core.specs.LogFile.{Stands}
use Rattle.journal_core.specs.States.{nothing}
use Rattle.journal_core.specs.declared.header.Header.{Header}

-- it has at most nine bytes, or the magic bytes and a closed gate
abbrev pub IsFresh : List ℕ → Type 0
IsFresh log = (length log ≤ 9) ⊎ EndsAt magic log

-- the header's bytes behind its gate, and a closed gate behind them
abbrev pub EndsFields : Header → List ℕ → Type 0
EndsFields h spelled = (text : List ℕ) × AreFields h text × (spelled ≡ text ++ 0 ∷ [])

-- the body is as a crash might have left it before, and the log is fresh
pub record StaysFresh (before : CrashView) (c : Files) : Type 0 where
  pub was : Files
  pub there : before.image was
  pub body : c.body ≡ was.body
  pub log : IsFresh c.log

-- the log is one that a crash might have left before
pub record KeepsLog (before : CrashView) (c : Files) : Type 0 where
  pub was : Files
  pub there : before.image was
  pub log : c.log ≡ was.log

-- the log has this header and no records, and the body has the header's size
abbrev pub IsEmptyStore : Header → Files → Type 0
IsEmptyStore h c = Stands h c.log nothing × (length c.body ≡ h.size)

-- the log is fresh, or the files are those of an empty store
abbrev pub FreshOrEmpty : Header → Files → Type 0
FreshOrEmpty h c = IsFresh c.log ⊎ IsEmptyStore h c

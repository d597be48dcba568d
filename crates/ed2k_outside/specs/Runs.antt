-- A run of calls of a vault, as a crash meets it.
use Rattle.std.specs.Prelude.{◌⊎◌, ℕ, ◌≤◌}
use Rattle.ed2k_outside.specs.Crashes.{CrashView}
use Rattle.ed2k_outside.specs.Files.{Files}

-- A run that began when so many calls were made: what a crash may have left since any moment before it is what one may
-- have left then, or has P; and what one now may leave has Q.
pub record Ran (made : ℕ) (old new : CrashView) (P Q : Files → Type 0) : Type 0 where
  pub each : (t : ℕ) (c : Files) → t ≤ made → new.since t c → old.since t c ⊎ P c
  pub now : (c : Files) → new.image c → Q c

-- a run that changes nothing of what a crash may leave, or may have left
pub record Idle (made : ℕ) (old new : CrashView) : Type 0 where
  pub past : (t : ℕ) (c : Files) → t ≤ made → new.since t c → old.since t c
  pub now : (c : Files) → new.image c → old.image c

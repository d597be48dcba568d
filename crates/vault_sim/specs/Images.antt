-- What a crash may leave of the files of a disk in memory, now and at earlier moments.
use Rattle.std.specs.Prelude.{◌⊎◌, ◌<◌, ◌≤◌, ℕ, List, [], ◌∷◌, ◌++◌}
use Rattle.ed2k_outside.specs.Crashes.{CrashView}
use Rattle.ed2k_outside.specs.Files.{Files}
use Rattle.ed2k_outside.specs.declared.vault.Which.{Which}
use Rattle.ed2k_outside.specs.declared.vault.Which.TheVariants.{Body, Log}
use Rattle.vault_sim.specs.Steps.{Reaches}
use Rattle.vault_sim.specs.declared.step.Asked.{Asked}

-- a file as the last sync left it, and what was asked of it since, the oldest first
pub record Unsettled : Type 0 where
  pub base : List ℕ
  pub asked : List Asked

-- the two files at a moment, and the number of calls made
pub record Moment : Type 0 where
  pub made : ℕ
  pub body : Unsettled
  pub log : Unsettled

abbrev pub file_image : Unsettled → List ℕ → Type 0
file_image file c = Reaches file.asked file.base c

-- the pairs that a crash at this moment may leave; the files are independent
abbrev pub image_at : Moment → Files → Type 0
image_at moment c = file_image moment.body c.body × file_image moment.log c.log

-- the pairs that a crash may have left at one of these moments, the newest first, since so many calls were made
abbrev pub since_of : List Moment → ℕ → Files → Type 0
since_of [] t c = ⊥
since_of (moment ∷ past) t c = ((t ≤ moment.made) × image_at moment c) ⊎ ((t < moment.made) × since_of past t c)

-- what a crash may leave now, and may have left at an earlier moment, the newest first
abbrev pub crash_view : Moment → List Moment → CrashView
crash_view now past = record { image = image_at now; since = since_of (now ∷ past) }

-- more was asked of the file
abbrev pub asked_more : Asked → Unsettled → Unsettled
asked_more asked file = record file { asked = file.asked ++ asked ∷ [] }

-- a crash leaves of the file these bytes
abbrev pub settled : List ℕ → Unsettled
settled bytes = record { base = bytes; asked = [] }

-- the moment, with more asked of this file alone
abbrev pub asks : Which → Asked → Moment → Moment
asks Body asked moment = record moment { body = asked_more asked moment.body }
asks Log asked moment = record moment { log = asked_more asked moment.log }

-- the moment, with this file alone synced
abbrev pub settles : Which → List ℕ → Moment → Moment
settles Body bytes moment = record moment { body = settled bytes }
settles Log bytes moment = record moment { log = settled bytes }

abbrev pub no_files : Files
no_files = record { body = []; log = [] }

-- the files as the last sync of each left them
abbrev pub synced : Moment → Files
synced moment = record { body = moment.body.base; log = moment.log.base }

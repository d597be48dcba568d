-- A store that is made for a download, and taken apart behind it.
use Rattle.std.specs.Prelude.{◌≡◌, ◌≢◌, ◌⊎◌, ◌≤◌, ℕ, List, [], length, Option, Some, IsFalse, IsTrue}
use Rattle.ed2k_outside.specs.Causes.{IfKnown, Rose}
use Rattle.ed2k_outside.specs.Files.{Files}
use Rattle.ed2k_outside.specs.declared.vault.Vault as vault
use Rattle.part_store.specs.Body.{BodyFits, Stored, body_of, log_of}
use Rattle.part_store.specs.declared.fault.StoreFault.{StoreFault}
use Rattle.part_store.specs.declared.fault.StoreFault.TheVariants.{Fault}
use Rattle.reserve_core.specs.Events.{events}
use Rattle.reserve_core.specs.Legal.{IsLegal}
use Rattle.ed2k_node.specs.Report.{verified_count}
use Rattle.ed2k_node.specs.declared.get.Outcome.{Outcome}
use Rattle.ed2k_node.specs.declared.status.Status.{Status}
use Rattle.ed2k_node.specs.declared.status.Status.TheVariants.{NoMemory, Vault}

-- the body has this many bytes now
abbrev pub SizesBody : ℕ → Option Files → Option Files → Type 0
SizesBody size old new = IfKnown (λ before now. length now.body ≡ size) old new

-- the log file is as it was
abbrev pub HasSameLog : {V : Type 0} → vault.Ghosts V → V → V → Type 0
HasSameLog v old new = log_of (v.files new) ≡ log_of (v.files old)

-- the place stayed, or it is this now
abbrev pub MayMove : List ℕ → Option (List ℕ) → Option (List ℕ) → Type 0
MayMove place old new = (new ≡ old) ⊎ (new ≡ Some place)

-- a fault is told only where one was counted
abbrev pub HasRisen : ℕ → ℕ → StoreFault → Type 0
HasRisen before now fault = fault ≡ Fault → Rose before now

-- the ending of a download that no peer was tried for: memory was refused, or the vault failed
abbrev pub IsGivenUp : ℕ → ℕ → Status → Type 0
IsGivenUp before now ending = (ending ≡ NoMemory) ⊎ ((ending ≡ Vault) × Rose before now)

-- what a store leaves that is taken apart
pub record IsTakenApart {V : Type 0} (v : vault.Ghosts V) (file : Stored V) (out : Outcome V) : Type 0 where
  pub verified : out.verified ≡ verified_count file.aim (events out.log.items)
  pub log : out.log.items ≡ file.log
  pub vault : out.vault ≡ file.vault
  pub made : out.log.items ≢ []
  pub legal : IsLegal file.aim out.log.items
  pub fits : BodyFits file.aim out.log.items (body_of (v.files file.initial)) (v.files out.vault)
  pub placed : v.placed out.vault ≡ v.placed file.initial
  pub log_file : HasSameLog v file.initial out.vault
  pub later : v.faults file.initial ≤ v.faults out.vault
  pub failed : IsTrue file.broken → Rose (v.faults file.initial) (v.faults out.vault)
  pub works : IsFalse file.broken → v.faults out.vault ≡ v.faults file.initial

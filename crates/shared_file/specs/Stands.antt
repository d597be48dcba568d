-- What a part file promises of its vault, told by what it was made with.
use Rattle.std.specs.Prelude.{◌≡◌, ◌≤◌, Bool, List, IsFalse, IsTrue}
use Rattle.ed2k_outside.specs.Causes.{Rose}
use Rattle.ed2k_outside.specs.declared.vault.Vault as vault
use Rattle.part_store.specs.Body.{BodyFits, log_file_after, log_of}
use Rattle.part_store.specs.Origin.{Origin}
use Rattle.reserve_core.specs.Legal.{IsLegal}
use Rattle.reserve_core.specs.declared.event.Entry.{Entry}

-- The log is legal, and the body fits it; the vault is as honest as it was, at the same place, and its log file has what the
-- entries leave in it; and its count of faults has risen exactly where the part file is broken.
pub record StandsOn {V : Type 0} (vault : vault.Ghosts V) (origin : Origin) (log : List Entry) (broken : Bool) (now : V) : Type 0 where
  pub legal : IsLegal origin.aim log
  pub fits : BodyFits origin.aim log origin.body (vault.files now)
  pub honest : vault.honest now ≡ origin.honest
  pub placed : vault.placed now ≡ origin.place
  pub log_file : log_of (vault.files now) ≡ log_file_after log origin.log_file
  pub later : origin.faults ≤ vault.faults now
  pub failed : IsTrue broken → Rose origin.faults (vault.faults now)
  pub works : IsFalse broken → vault.faults now ≡ origin.faults

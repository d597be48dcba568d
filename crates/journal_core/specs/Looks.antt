-- A run of calls of a vault that leaves it as it was.
use Rattle.std.specs.Prelude.{◌≡◌, ◌≤◌, IsTrue}
use Rattle.ed2k_outside.specs.Runs.{Idle}
use Rattle.ed2k_outside.specs.declared.vault.Vault as vault

-- no byte changes, nothing of the body is read, and a crash leaves what it might have left before
pub record OnlyLooks {V : Type 0} (vault : vault.Ghosts V) (old new : V) : Type 0 where
  pub files : vault.files new ≡ vault.files old
  pub placed : vault.placed new ≡ vault.placed old
  pub body_reads : vault.body_reads new ≡ vault.body_reads old
  pub honest : vault.honest new ≡ vault.honest old
  pub later : vault.made old ≤ vault.made new
  pub idle : IsTrue (vault.honest old) → Idle (vault.made old) (vault.crash old) (vault.crash new)

-- A vault that passes so many calls.
use Rattle.std.specs.Prelude.{◌≡◌, ℕ, ◌+◌, ◌-◌, IsErr, IsTrue}
use Rattle.std.specs.declared.result.Result.{Result}
use Rattle.ed2k_outside.specs.Causes.{HasCause, CountsCall}
use Rattle.ed2k_outside.specs.Crashes.{Crashes}
use Rattle.ed2k_outside.specs.Files.{Files}
use Rattle.ed2k_outside.specs.declared.vault.Vault as vault
use Rattle.vault_sim.specs.declared.fuse.Fuse.{Fuse}

module _ {V : Type 0} where
  -- the vault inside
  abbrev pub fused : Fuse V → V
  fused fuse = fuse.vault

  -- the number of calls that it still passes
  abbrev pub fuse_left : Fuse V → ℕ
  fuse_left fuse = fuse.left

  -- the number of calls that it failed
  abbrev pub fuse_blown : Fuse V → ℕ
  fuse_blown fuse = fuse.blown

  -- the faults of the vault inside, and the calls that the fuse failed
  abbrev pub fuse_faults : vault.Ghosts V → Fuse V → ℕ
  fuse_faults v fuse = v.faults (fused fuse) + fuse_blown fuse

  -- a blown fuse fails the call, and doesn't make it; one that isn't blown passes one call fewer from now on
  pub record IsFused {T E : Type 0} (v : vault.Ghosts V) (old new : Fuse V) (result : Result T E) : Type 0 where
    pub blown : fuse_left old ≡ 0 → IsErr result × (fused new ≡ fused old)
    pub left : fuse_left new ≡ fuse_left old - 1
    pub cause : HasCause (fuse_faults v old) (fuse_faults v new) result
    pub made : CountsCall (v.made (fused old)) (v.made (fused new)) result
    pub honest : v.honest (fused new) ≡ v.honest (fused old)

  -- over an honest vault, a crash during or after the call leaves what one before it may have left, after a step
  abbrev pub FuseCrashes : vault.Ghosts V → (Files → Files → Type 0) → Fuse V → Fuse V → Type 0
  FuseCrashes v step old new = IsTrue (v.honest (fused old)) →
      Crashes step (v.made (fused old)) (v.crash (fused old)) (v.crash (fused new))

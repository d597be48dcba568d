-- What a vault in memory shows, and what its calls do to it.
use Rattle.std.specs.Prelude.{◌≡◌, ◌⊎◌, ℕ, ◌+◌, ◌-◌, ◌^◌, ◌≤◌, List, ◌∷◌, [], Contains, IsErr, MatchResult, None}
use Rattle.std.proofs.Common.{inl, inr}
use Rattle.std.proofs.Math.Nat.{lt_irrefl}
use Rattle.std.specs.Option.{option_map}
use Rattle.std.specs.declared.option.Option.{Option}
use Rattle.std.specs.declared.result.Result.{Result}
use Rattle.ed2k_outside.specs.Causes.{HasCause, CountsCall}
use Rattle.ed2k_outside.specs.Crashes.{CrashView, Crashes}
use Rattle.ed2k_outside.specs.Files.{Files, file_of}
use Rattle.ed2k_outside.specs.Scripts.{CountsFault}
use Rattle.ed2k_outside.specs.declared.vault.Which.{Which}
use Rattle.vault_sim.specs.Disks.{disk_files, moment_of}
use Rattle.vault_sim.specs.Images.{Moment, asks, crash_view, settled, settles}
use Rattle.vault_sim.specs.Pasts.{moments}
use Rattle.vault_sim.specs.Steps.{told}
use Rattle.vault_sim.specs.declared.step.Asked.{Asked}
use Rattle.vault_sim.specs.declared.mem_vault.MemVault.{MemVault}

abbrev pub vault_files : MemVault → Files
vault_files vault = disk_files vault.disk

abbrev pub vault_now : MemVault → Moment
vault_now vault = moment_of vault.disk

abbrev pub vault_past : MemVault → List Moment
vault_past vault = moments vault.past

abbrev pub vault_made : MemVault → ℕ
vault_made vault = (vault_now vault).made

abbrev pub vault_crash : MemVault → CrashView
vault_crash vault = crash_view (vault_now vault) (vault_past vault)

abbrev pub vault_image : MemVault → Files → Type 0
vault_image vault = (vault_crash vault).image

abbrev pub vault_since : MemVault → ℕ → Files → Type 0
vault_since vault = (vault_crash vault).since

abbrev pub vault_fails : MemVault → List ℕ
vault_fails vault = vault.fails.items

abbrev pub vault_faults : MemVault → ℕ
vault_faults vault = vault.faults

abbrev pub vault_body_reads : MemVault → ℕ
vault_body_reads vault = vault.body_reads

abbrev pub vault_placed : MemVault → Option (List ℕ)
vault_placed vault = option_map (λ noted. noted.bytes) vault.placed

-- the moment after one call more that has no effect
abbrev pub counted : Moment → Moment
counted moment = record moment { made = moment.made + 1 }

-- the moment after the next call, if that has no effect
abbrev pub next_still : MemVault → Moment
next_still vault = counted (vault_now vault)

-- the moment after the next call, if that asks something of one file
abbrev pub next_asked : Which → Asked → MemVault → Moment
next_asked which asked vault = asks which asked (next_still vault)

-- the moment after the next call, if that syncs one file
abbrev pub next_settled : Which → MemVault → Moment
next_settled which vault = settles which (file_of which (vault_files vault)) (next_still vault)

-- the next call's number is among those that fail
abbrev pub IsListed : MemVault → Type 0
IsListed vault = Contains (vault_fails vault) (vault_made vault + 1)

-- no number is left for a further call
abbrev pub IsSpent : MemVault → Type 0
IsSpent vault = vault_made vault ≡ 2 ^ 64 - 1

-- a call that was counted: all moments before it are kept, and this is the one now
pub record Follows (old new : MemVault) (now : Moment) : Type 0 where
  pub past : vault_past new ≡ vault_now old ∷ vault_past old
  pub is : vault_now new ≡ now

-- a call that wasn't counted had no effect
pub record IsAsBefore (old new : MemVault) : Type 0 where
  pub past : vault_past new ≡ vault_past old
  pub is : vault_now new ≡ vault_now old

-- a call that failed, and may have gone uncounted
abbrev pub MayFollow : MemVault → MemVault → Moment → Type 0
MayFollow old new now = Follows old new now ⊎ IsAsBefore old new

-- a call that was made is counted, and this is the moment after it; so it is with one that failed and was counted
abbrev pub Becomes : {T E : Type 0} → MemVault → MemVault → Result T E → Moment → Type 0
Becomes old new result now = MatchResult result (λ _. Follows old new now) (λ _. MayFollow old new now)

-- no call was made: these are the files, which a crash leaves, and these the numbers of the calls that are to fail
pub record IsUnused (files : Files) (fails : List ℕ) (vault : MemVault) : Type 0 where
  pub is : vault_files vault ≡ files
  pub now : vault_now vault ≡ record { made = 0; body = settled files.body; log = settled files.log }
  pub past : vault_past vault ≡ []
  pub failing : vault_fails vault ≡ fails
  pub faults : vault_faults vault ≡ 0
  pub body_reads : vault_body_reads vault ≡ 0
  pub placed : vault_placed vault ≡ None

-- a call fails where its number is listed, is one fault exactly where it fails, and is counted where it doesn't
pub record IsCall {T E : Type 0} (old new : MemVault) (result : Result T E) : Type 0 where
  pub listed : IsListed old → IsErr result
  pub fails : vault_fails new ≡ vault_fails old
  pub cause : HasCause (vault_faults old) (vault_faults new) result
  pub faults : CountsFault (vault_faults old) (vault_faults new) result
  pub made : CountsCall (vault_made old) (vault_made new) result

-- a crash during or after the call leaves what one before it may have left, after a step
abbrev pub VaultCrashes : (Files → Files → Type 0) → MemVault → MemVault → Type 0
VaultCrashes step old new = Crashes step (vault_made old) (vault_crash old) (vault_crash new)

-- all but the counts of calls and faults, and the disk, is as it was
pub record KeepsRest (old new : MemVault) : Type 0 where
  pub fails : vault_fails new ≡ vault_fails old
  pub body_reads : vault_body_reads new ≡ vault_body_reads old
  pub placed : vault_placed new ≡ vault_placed old

-- this moment is one of those since an earlier call
pub vault_counts_now : (vault : MemVault) (t : ℕ) (c : Files) → t ≤ vault_made vault → vault_image vault c → vault_since vault t c
vault_counts_now vault t c early image = inl (early, image)

-- since this moment there is no other
pub vault_only_now : (vault : MemVault) (c : Files) → vault_since vault (vault_made vault) c → vault_image vault c
vault_only_now vault c (inl now) = now.1
vault_only_now vault c (inr before) = absurd (lt_irrefl (vault_made vault) before.0)

-- what is read is among the images
pub vault_tells : (vault : MemVault) → vault_image vault (vault_files vault)
vault_tells vault = (told vault.disk.body.steps.items vault.disk.body.bytes.items vault.disk.body.legal, told vault.disk.log.steps.items vault.disk.log.bytes.items vault.disk.log.legal)

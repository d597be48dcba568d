-- Calls that leave a vault as it was, one behind another.
use Rattle.std.proofs.Common.{◌≡◌, ℕ, ◌≤◌, IsTrue, refl, sym, ◌∙◌, subst, arith}
use Rattle.ed2k_outside.specs.Crashes.{Crashes, Stays}
use Rattle.ed2k_outside.specs.Files.{Files}
use Rattle.ed2k_outside.specs.declared.vault.Vault as vault
use Rattle.ed2k_outside.proofs.Runs.{idle-call, idle-start, idle-then}
use Rattle.journal_core.specs.Looks.{OnlyLooks}

pub looks-none : {V : Type 0} (v : vault.Ghosts V) (old : V) → OnlyLooks v old old
looks-none v old = record { files = refl; placed = refl; body_reads = refl; honest = refl; later = omega arith; idle = λ honest. idle-start (v.made old) (v.crash old) }

pub looks-then : {V : Type 0} (v : vault.Ghosts V) (old mid new : V) → OnlyLooks v old mid → OnlyLooks v mid new → OnlyLooks v old new
looks-then v old mid new a b = record {
  files = b.files ∙ a.files;
  placed = b.placed ∙ a.placed;
  body_reads = b.body_reads ∙ a.body_reads;
  honest = b.honest ∙ a.honest;
  later = omega (arith, a.later, b.later);
  idle = λ honest. idle-then (a.idle honest) a.later (b.idle (subst IsTrue (sym a.honest) honest));
}

pub looks-call : {V : Type 0} (v : vault.Ghosts V) (old new : V)
    → v.files new ≡ v.files old → v.placed new ≡ v.placed old → v.body_reads new ≡ v.body_reads old → v.honest new ≡ v.honest old → v.made old ≤ v.made new
    → ((t : ℕ) (c : Files) → t ≤ v.made old → (v.crash old).image c → (v.crash old).since t c)
    → (IsTrue (v.honest old) → Crashes Stays (v.made old) (v.crash old) (v.crash new)) → OnlyLooks v old new
looks-call v old new files placed body_reads honest later counts call = record {
  files = files;
  placed = placed;
  body_reads = body_reads;
  honest = honest;
  later = later;
  idle = λ awake. idle-call counts (call awake);
}

-- What a part file promises is told by what it was made with, so it is known of the one that comes back out of a lock.
use Rattle.std.proofs.Common.{◌≡◌, ℕ, ◌≤◌, List, IsFalse, IsTrue, sym, ap, ◌∙◌, subst}
use Rattle.ed2k_outside.specs.Causes.{Rose}
use Rattle.ed2k_outside.specs.declared.vault.Vault as vault
use Rattle.part_store.proofs.Origins.{same_origin, told_back}
use Rattle.part_store.specs.Body.{BodyFits, Stored, body_of, log_file_after, log_of}
use Rattle.part_store.specs.Origin.{Origin, origin_code, origin_in, origin_of}
use Rattle.reserve_core.specs.Legal.{IsLegal}
use Rattle.shared_file.specs.Stands.{StandsOn}

module _ {V : Type 0} (vault : vault.Ghosts V) where
  -- what `log` and `into_parts` of a part file say, as one
  pub stands_on : (file : Stored V) → IsLegal file.aim file.log → BodyFits file.aim file.log (body_of (vault.files file.initial)) (vault.files file.vault) → vault.honest file.vault ≡ vault.honest file.initial → vault.placed file.vault ≡ vault.placed file.initial
      → log_of (vault.files file.vault) ≡ log_file_after file.log (log_of (vault.files file.initial)) → vault.faults file.initial ≤ vault.faults file.vault → (IsTrue file.broken → Rose (vault.faults file.initial) (vault.faults file.vault))
      → (IsFalse file.broken → vault.faults file.vault ≡ vault.faults file.initial) → StandsOn vault (origin_of vault file) file.log file.broken file.vault
  stands_on file legal fits honest placed log_file later failed works = record {
    legal = legal;
    fits = fits;
    honest = honest;
    placed = placed;
    log_file = log_file;
    later = later;
    failed = failed;
    works = works;
  }

  -- the closed file stands on what the one was made with that was put in
  pub closed_stands : (put closed : Stored V) → origin_code (origin_of vault closed) ≡ origin_code (origin_of vault put) → StandsOn vault (origin_of vault closed) closed.log closed.broken closed.vault
      → StandsOn vault (origin_of vault put) closed.log closed.broken closed.vault
  closed_stands put closed same stands =
      subst (λ (o : Origin). StandsOn vault o closed.log closed.broken closed.vault) (same_origin (origin_of vault closed) (origin_of vault put) same) stands

  -- a birth tells the origin
  pub origin_told : (file : Stored V) (birth : List ℕ) → origin_code (origin_of vault file) ≡ birth → origin_of vault file ≡ origin_in birth
  origin_told file birth is = sym (told_back (origin_of vault file)) ∙ ap origin_in is

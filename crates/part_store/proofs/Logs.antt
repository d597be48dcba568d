-- No call of a part file changes the log file of its vault.
use Rattle.std.proofs.Common.{◌≡◌, ℕ, Bool, List, length, Option, None, Some, Result, Ok, Err, MatchResult, refl, ap}
use Rattle.ed2k_outside.specs.Causes.{IfKnown}
use Rattle.ed2k_outside.specs.Crashes.{Torn}
use Rattle.ed2k_outside.specs.Files.{Files, InFile, Writes}
use Rattle.ed2k_outside.specs.declared.vault.Which.TheVariants.{Body}
use Rattle.part_store.specs.Body.{Identity, log_of}

-- a step that leaves the log leaves what is told of it
log-goes : (step : Files → Files → Type 0) (old new : Option Files) → ((a b : Files) → step a b → b.log ≡ a.log) → IfKnown step old new → log_of new ≡ log_of old
log-goes step None None leaves goes = refl
log-goes step None (Some new) leaves goes = absurd (cc)
log-goes step (Some old) None leaves goes = absurd goes
log-goes step (Some old) (Some new) leaves goes = ap Some (leaves old new goes)

writes-leave : (at : ℕ) (piece : List ℕ) (a b : Files) → Writes Body at piece a b → b.log ≡ a.log
writes-leave at piece a b is = ap (λ (f : Files). f.log) is

pub log-written : {T E : Type 0} (at : ℕ) (piece : List ℕ) (old new : Option Files) (result : Result T E)
    → MatchResult result (λ _. IfKnown (Writes Body at piece) old new) (λ _. IfKnown (InFile Body (Torn at (length piece))) old new) → log_of new ≡ log_of old
log-written at piece old new (Ok x) goes = log-goes (Writes Body at piece) old new (writes-leave at piece) goes
log-written at piece old new (Err e) goes = log-goes (InFile Body (Torn at (length piece))) old new (λ a b step. step.1) goes

abbrev pub identity_as : Bool → Option (List ℕ) → Option (List ℕ) → Identity
identity_as honest place log_file = record { honest = honest; place = place; log_file = log_file }

pub identity-same : {h k : Bool} {p q l m : Option (List ℕ)} → k ≡ h → q ≡ p → m ≡ l → identity_as k q m ≡ identity_as h p l
identity-same honest named logged = λ i. identity_as (honest i) (named i) (logged i)

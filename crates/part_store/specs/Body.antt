-- The body of a download in a vault, and what is kept true of it.
use Rattle.std.specs.Prelude.{◌≡◌, ℕ, ◌≤◌, Bool, List, length, replicate, take, Option, None, Some, Result, IsFalse, IsTrue, IfSome, MatchResult}
use Rattle.ed2k_outside.specs.Causes.{Rose, IfKnown}
use Rattle.ed2k_outside.specs.Crashes.{Torn}
use Rattle.ed2k_outside.specs.Files.{Files, with_file, Writes, InFile}
use Rattle.ed2k_outside.specs.declared.vault.Vault as vault
use Rattle.ed2k_outside.specs.declared.vault.Which.TheVariants.{Body}
use Rattle.md4_hash.specs.Md4.{md4}
use Rattle.part_hashset.specs.declared.aim.Aim.{Aim}
use Rattle.part_sizes.specs.Part.{part, IsSize}
use Rattle.reserve_core.specs.Events.{events}
use Rattle.reserve_core.specs.Seen.{newest_calls}
use Rattle.reserve_core.specs.Verdicts.{verdict_of}
use Rattle.reserve_core.specs.declared.event.Entry.{Entry}
use Rattle.reserve_core.specs.declared.event.Event.{Event}
use Rattle.reserve_core.specs.declared.fault.DeskFault.{DeskFault}
use Rattle.reserve_core.specs.declared.fault.DeskFault.TheVariants.{Fault}

-- What a part file is seen as: its aim and log, whether a call of the vault failed since it was made, the
-- vault as it was made, and the vault now.
pub record Stored (V : Type 0) : Type 0 where
  pub aim : Aim
  pub log : List Entry
  pub broken : Bool
  pub initial : V
  pub vault : V

-- each verdict of the events is the MD4 of that part's bytes in the body
abbrev pub AreTrue : List Event → List ℕ → Type 0
AreTrue h body = (i : ℕ) (d : List ℕ) → verdict_of h i ≡ Some d → d ≡ md4 (part body i)

-- the verdicts of the first event, which opened the part file, were true of the body that it began with, where the
-- vault tells it
abbrev pub BeganTrue : List Event → Option (List ℕ) → Type 0
BeganTrue h first = IfSome first (AreTrue (take 1 h))

-- the body has the size of the aim, and where the part file began with true verdicts, those of the events are true
pub record Fits (aim : Aim) (h : List Event) (first : Option (List ℕ)) (body : List ℕ) : Type 0 where
  pub sized : length body ≡ aim.size
  pub verdicts : BeganTrue h first → AreTrue h body

-- the vault tells no bytes, or its body fits the log and the body that the part file began with
abbrev pub BodyFits : Aim → List Entry → Option (List ℕ) → Option Files → Type 0
BodyFits aim log first files = IfSome files (λ files. Fits aim (events log) first files.body)

-- the bytes of the body, where the vault tells its files
abbrev pub body_of : Option Files → Option (List ℕ)
body_of None = None
body_of (Some files) = Some files.body

-- the bytes of the log file, where the vault tells its files
abbrev pub log_of : Option Files → Option (List ℕ)
log_of None = None
log_of (Some files) = Some files.log

-- the bytes of the log file behind these entries, where it had these before: no entry is recorded in it yet
abbrev pub log_file_after : List Entry → Option (List ℕ) → Option (List ℕ)
log_file_after log before = before

-- what no call changes of a vault: whether it is honest, the name of its place, and the bytes of its log file, where it
-- tells them
pub record Identity : Type 0 where
  pub honest : Bool
  pub place : Option (List ℕ)
  pub log_file : Option (List ℕ)

abbrev pub identity : {V : Type 0} → vault.Ghosts V → V → Identity
identity vault v = record { honest = vault.honest v; place = vault.placed v; log_file = log_of (vault.files v) }

-- what every part file keeps: the size is one of a file, the body fits the log, no entry has more device calls than were made, the
-- vault of a broken one, and of no other, has failed since the part file was made, and beside the body the vault is as it was then
pub record FileKeeps (aim : Aim) (log : List Entry) (broken : Bool) (initial_faults faults made : ℕ)
    (first : Option (List ℕ)) (files : Option Files) (initial now : Identity) : Type 0 where
  pub size : IsSize aim.size
  pub body : BodyFits aim log first files
  pub calls : newest_calls 0 log ≤ made
  pub later : initial_faults ≤ faults
  pub failed : IsTrue broken → Rose initial_faults faults
  pub works : IsFalse broken → faults ≡ initial_faults
  pub identity : now ≡ initial

-- the body has this many zero bytes, and the other file is as it was
abbrev pub Blanks : ℕ → Files → Files → Type 0
Blanks n old new = new ≡ with_file Body (replicate n 0) old

-- an Ok lays the piece over the body from the place on; a Fault leaves any bytes in its span; all other bytes,
-- and all bytes where the call was refused, are as they were
abbrev pub WritesPiece : {T : Type 0} → ℕ → List ℕ → Result T DeskFault → Option Files → Option Files → Type 0
WritesPiece at piece result old new =
    MatchResult result
    (λ _. IfKnown (Writes Body at piece) old new)
    (λ fault. (fault ≡ Fault → IfKnown (InFile Body (Torn at (length piece))) old new) × ((fault ≡ Fault → ⊥) → new ≡ old))

-- What the log file of a download keeps of its log, whenever the program stops.
use Rattle.std.specs.Prelude.{◌≡◌, ℕ, ◌+◌, ◌<◌, ◌^◌, Bool, List, [], ◌∷◌, ◌++◌, Option, IfSome, IsFalse, IsTrue}
use Rattle.ed2k_outside.specs.Crashes.{CrashView, IsDurable}
use Rattle.ed2k_outside.specs.Files.{Files}
use Rattle.ed2k_outside.specs.declared.vault.Which.TheVariants.{Log}
use Rattle.journal_core.specs.LogFile.{Stands}
use Rattle.journal_core.specs.States.{State}
use Rattle.journal_core.specs.declared.header.Header.{Header}
use Rattle.part_hashset.specs.declared.aim.Aim.{Aim}
use Rattle.part_store.specs.Body.{BeganTrue}
use Rattle.part_store.specs.Durable.{Same, Sound, durable}
use Rattle.reserve_core.specs.Events.{events}
use Rattle.reserve_core.specs.Legal.{Allowed}
use Rattle.reserve_core.specs.declared.event.Entry.{Entry}
use Rattle.reserve_core.specs.declared.event.Event.{Event}

-- the header of the log file: the size and the hash that are wanted, and the root that the log file has
abbrev pub header_of : Aim → Option (List ℕ) → Header
header_of aim root = record { size = aim.size; hash = aim.hash; root = root }

-- the bytes of a log file stand for the state, and end at this gate
abbrev pub StandsTo : Header → List ℕ → State → ℕ → Type 0
StandsTo header log s gate = (st : Stands header log s) × (gate ≡ st.gate)

-- The image is sound for the events g and a front of the rest, and has the body's bytes at all that is durable
-- after these, but where an event behind that front touches it.
pub record Outlives (header : Header) (g rest : List Event) (body : List ℕ) (c : Files) : Type 0 where
  pub more : List Event
  pub behind : List Event
  pub split : rest ≡ more ++ behind
  pub sound : Sound header c (durable header.size (g ++ more))
  pub same : Same header.size c.body (g ++ more) behind body

-- For each entry of the log: an image that a crash at any moment since this entry's device calls may have left
-- outlives with the events up to it, among those behind it and the open call's.
abbrev pub Survives : Header → List Entry → List Event → List ℕ → (ℕ → Files → Type 0) → Type 0
Survives header log open_call body since =
    (front : List Entry) (entry : Entry) (behind : List Entry) → log ≡ front ++ entry ∷ behind
    → (c : Files) → since entry.calls c
    → Outlives header (events (front ++ entry ∷ [])) (events behind ++ open_call) body c

-- nothing, or one event that is allowed after those of the log
abbrev pub MayBeOpen : Aim → List Event → List Event → Type 0
MayBeOpen aim h [] = Unit {0}
MayBeOpen aim h (e ∷ []) = Allowed aim h e
MayBeOpen aim h (e ∷ more) = ⊥

-- The log outlasts a stop at any moment since any of its entries; one event may follow it where the part file
-- is broken, that of the call that answered Fault.
pub record Outlasts (aim : Aim) (root : Option (List ℕ)) (log : List Entry) (broken : Bool) (body : List ℕ)
    (since : ℕ → Files → Type 0) : Type 0 where
  pub open_call : List Event
  pub none : IsFalse broken → open_call ≡ []
  pub allowed : MayBeOpen aim (events log) open_call
  pub survives : Survives (header_of aim root) log open_call body since

-- What a part file keeps of its log file. Unless it is broken, the log file stands for what is durable after the
-- log and ends at the gate, behind which there is a place; a crash leaves the log file as a read gives it. Where
-- the vault is honest and the first entry's verdicts were true of the body that the part file began with, the
-- log outlasts a stop.
pub record LogKeeps (aim : Aim) (root : Option (List ℕ)) (log : List Entry) (gate : ℕ) (broken : Bool)
    (first : Option (List ℕ)) (files : Option Files) (honest : Bool) (crash : CrashView) : Type 0 where
  pub low : IsFalse broken → gate + 1 < 2 ^ 64
  pub stands : IsFalse broken
      → IfSome files (λ files. StandsTo (header_of aim root) files.log (durable aim.size (events log)) gate)
  pub synced : IsFalse broken → IsTrue honest → IsDurable Log files crash
  pub outlasts : IsTrue honest → BeganTrue (events log) first
      → IfSome files (λ files. Outlasts aim root log broken files.body crash.since)

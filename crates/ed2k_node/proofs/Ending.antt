-- How a download ended, by how its rounds ended.
use Rattle.std.proofs.Common.{◌≡◌, ◌≢◌, ◌⊎◌, ◌↔◌, ◌∙◌, refl, sym, ap, inl, inr, ℕ, Bool, true, false, List, [], ◌∷◌, find, Option, None, Some, Result, Ok, Err, is_ok, IsTrue, IfErr}
use Rattle.std.specs.List.{All}
use Rattle.ed2k_outside.specs.Files.{Files}
use Rattle.part_hashset.specs.declared.aim.Aim.{Aim}
use Rattle.part_store.specs.Body.{body_of}
use Rattle.peer_fetch.specs.declared.cause.Cause.{Cause}
use Rattle.peer_fetch.specs.declared.cause.Cause.TheVariants as causes
use Rattle.peer_fetch.specs.declared.peer_end.PeerEnd.{PeerEnd}
use Rattle.reserve_core.specs.Events.{events}
use Rattle.reserve_core.specs.Verdicts.{is_worn, parts}
use Rattle.reserve_core.specs.declared.event.Entry.{Entry}
use Rattle.reserve_core.specs.declared.fault.DeskFault.{DeskFault}
use Rattle.reserve_core.specs.declared.fault.DeskFault.TheVariants as faults
use Rattle.ed2k_node.specs.Left.{IsComplete}
use Rattle.ed2k_node.specs.Rounds.{IsShort, Rounds}
use Rattle.ed2k_node.specs.Served.{IsStopped, IsWholeOr}
use Rattle.ed2k_node.specs.declared.status.Status.{Status}
use Rattle.ed2k_node.specs.declared.status.Status.TheVariants.{Complete, Incomplete, Vault, NoMemory, Net, BadPart, NoSet}
use Rattle.ed2k_node.proofs.Rounding.{one_peer}

-- ---- the store works and all was settled, or it is broken, or memory was refused

-- the store works and all was settled
pub record Works {T : Type 0} (settled : Result T DeskFault) (broken : Bool) : Type 0 where
  pub ok : is_ok settled ≡ true
  pub unbroken : broken ≡ false

abbrev refuse : (T : Type 0) → DeskFault → Result T DeskFault
refuse T fault = Err fault

pub works_or : {T : Type 0} (settled : Result T DeskFault) (broken : Bool) → IfErr settled (λ fault. (fault ≡ faults.NoMemory) ⊎ IsTrue broken)
    → (settled ≡ Err faults.NoMemory → ⊥) → Works settled broken ⊎ IsTrue broken
works_or settled true cause supplied = inr refl
works_or (Ok done) false cause supplied = inl (record { ok = refl; unbroken = refl })
works_or {T} (Err fault) false cause supplied = elim cause [
  | inl wanted ↦ absurd (supplied (ap (refuse T) wanted))
  | inr broken ↦ absurd (cc)
]

-- ---- a part isn't verified, and no part is to blame

no-worn : (found : Option ℕ) (part : ℕ) → found ≡ None → found ≡ Some part → ⊥
no-worn found part none some = cc

lone : (says : PeerEnd → Type 0) (met : PeerEnd) → says met → All says (met ∷ [])
lone = one_peer

pub short_of : (aim : Aim) (log : List Entry) (met : PeerEnd) → (IsComplete aim (events log) → ⊥) → find (is_worn aim (events log)) (parts aim.size) ≡ None
    → met.cause ≢ causes.NoMemory → Rounds aim log (met ∷ []) → IsShort aim log (met ∷ [])
short_of aim log met lacks unworn supplied due = elim due [
  | inl all ↦ absurd (lacks all)
  | inr rest ↦ elim rest [
    | inl worn ↦ absurd (no-worn (find (is_worn aim (events log)) (parts aim.size)) worn.0 unworn worn.1)
    | inr given ↦ record { lacks = lacks; given = given; supplied = lone (λ m. m.cause ≢ causes.NoMemory) met supplied }
  ]
]

-- ---- a peer served the file

refused-or : (status : Status) → (status ≡ NoMemory) ⊎ (status ≢ NoMemory)
refused-or Complete = inr (λ is. cc)
refused-or Incomplete = inr (λ is. cc)
refused-or Vault = inr (λ is. cc)
refused-or NoMemory = inl refl
refused-or Net = inr (λ is. cc)
refused-or (BadPart part) = inr (λ is. cc)
refused-or NoSet = inr (λ is. cc)

store-of : (files : Option Files) (bytes : List ℕ) → body_of files ≡ Some bytes → (store : Files) × (files ≡ Some store) × (store.body ≡ bytes)
store-of None bytes is = absurd (cc)
store-of (Some store) bytes is = (store, refl, cc)

-- what is known where the rounds ended over a stream that serves the file
pub record Known (aim : Aim) (log : List Entry) (bytes : List ℕ) (cause : Cause) (status : Status) (broken : Bool) (failed : Type 0) (files : Option Files) : Type 0 where
  pub complete : status ≢ NoMemory → ((status ≡ Complete) ↔ IsComplete aim (events log))
  pub stopped : cause ≡ causes.NoMemory → (status ≡ NoMemory) ⊎ (status ≡ Complete) ⊎ (status ≡ Vault)
  pub vault : status ≡ Vault → IsTrue broken
  pub breaks : IsTrue broken → failed
  pub wire : cause ≡ causes.WireFault → failed
  pub store : cause ≡ causes.StoreFault → failed
  pub body : IsComplete aim (events log) → body_of files ≡ Some bytes

all-whole : (aim : Aim) (log : List Entry) (bytes : List ℕ) (cause : Cause) (status : Status) (broken : Bool) (failed : Type 0) (files : Option Files)
    → Known aim log bytes cause status broken failed files → IsComplete aim (events log) → IsWholeOr bytes (status ≡ Complete) (status ≡ NoMemory) failed files
all-whole aim log bytes cause status broken failed files known all = elim (refused-or status) [
  | inl refused ↦ inr (inl refused)
  | inr other ↦ let store = store-of files bytes (known.body all) in inl ((known.complete other).1 all, store.0, store.1, store.2)
]

stopped-whole : (aim : Aim) (log : List Entry) (bytes : List ℕ) (cause : Cause) (status : Status) (broken : Bool) (failed : Type 0) (files : Option Files)
    → Known aim log bytes cause status broken failed files → IsStopped cause → IsWholeOr bytes (status ≡ Complete) (status ≡ NoMemory) failed files
stopped-whole aim log bytes causes.WireFault status broken failed files known stopped = inr (inr (known.wire refl))
stopped-whole aim log bytes causes.StoreFault status broken failed files known stopped = inr (inr (known.store refl))
stopped-whole aim log bytes causes.NoMemory status broken failed files known stopped = elim (known.stopped refl) [
  | inl refused ↦ inr (inl refused)
  | inr rest ↦ elim rest [
    | inl complete ↦
        let other : status ≢ NoMemory = λ refused. let both : Complete ≡ NoMemory = sym complete ∙ refused in cc in
        all-whole aim log bytes causes.NoMemory status broken failed files known ((known.complete other).0 complete)
    | inr vault ↦ inr (inr (known.breaks (known.vault vault)))
  ]
]
stopped-whole aim log bytes _ status broken failed files known stopped = absurd stopped

pub ended_whole : (aim : Aim) (log : List Entry) (bytes : List ℕ) (cause : Cause) (status : Status) (broken : Bool) (failed : Type 0) (files : Option Files)
    → Known aim log bytes cause status broken failed files → IsStopped cause ⊎ IsComplete aim (events log) → IsWholeOr bytes (status ≡ Complete) (status ≡ NoMemory) failed files
ended_whole aim log bytes cause status broken failed files known ends = elim ends [
  | inl stopped ↦ stopped-whole aim log bytes cause status broken failed files known stopped
  | inr all ↦ all-whole aim log bytes cause status broken failed files known all
]

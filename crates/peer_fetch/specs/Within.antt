-- What a session reads of the bytes ahead, of which only as many may be read as its budget leaves.
use Rattle.std.specs.Prelude.{◌≡◌, ◌⊎◌, ℕ, ◌+◌, ◌<◌, ◌≤◌, List, [], ◌∷◌, length, take, Option, Some, IfSome}
use Rattle.ed2k_frame.specs.Frame.{spell}
use Rattle.ed2k_frame.specs.Front.{IsPartial, IsFaultAt}
use Rattle.peer_fetch.specs.Plan.{Read}
use Rattle.peer_fetch.specs.Talk.{Act, Takes, Stops, MayCome, Comes, IsBad, Leaves}
use Rattle.peer_fetch.specs.declared.cause.Cause.{Cause}
use Rattle.peer_fetch.specs.declared.cause.Cause.TheVariants as causes
use Rattle.peer_fetch.specs.declared.session.Session.{Session}

-- as many bytes as may be read are ahead, and they are less than a frame
abbrev pub IsUsedUp : ℕ → List ℕ → Type 0
IsUsedUp room bytes = (room ≤ length bytes) × IsPartial (take room bytes)

-- Why the session stops where a message is due and so many of the bytes ahead may be read. The bytes end, within
-- a frame or before one, and more may be read; a fault or a frame that is no message stands in front of what may
-- be read; all of that was read, and is less than a frame; or the wire failed before all of it was read.
abbrev pub StopsWithin : ℕ → Cause → List ℕ → Type 0
StopsWithin room causes.Ended bytes = (length bytes < room) × IsPartial bytes
StopsWithin room (causes.BadFrame fault) bytes = IsFaultAt fault (take room bytes)
StopsWithin room (causes.BadMsg fault) bytes = IsBad fault (take room bytes)
StopsWithin room causes.Spent bytes = IsUsedUp room bytes
StopsWithin room causes.WireFault bytes = (n : ℕ) × (n < room) × IsPartial (take n bytes)
StopsWithin room _ bytes = Unit {0}

-- The bytes ahead, where they are told, and how many of them may be read, first and after the acts: each message
-- stands within what may be read, and so does what stops the session.
abbrev pub ReadsWithin : ℕ → ℕ → List Act → Option (List ℕ) → Option (List ℕ) → Type 0
ReadsWithin room last [] old new = (room ≡ last) × (old ≡ new)
ReadsWithin room last (Takes msg ∷ acts) old new =
    (mid : Option (List ℕ)) × (comes : Comes msg old mid) × (left : ℕ) × (room ≡ left + length (spell comes.frame)) × ReadsWithin left last acts mid new
ReadsWithin room last (Stops cause ∷ acts) old new =
    IfSome old (StopsWithin room cause) × (mid : Option (List ℕ)) × Leaves cause old mid × (left : ℕ) × (left ≤ room) × ReadsWithin left last acts mid new
ReadsWithin room last (_ ∷ acts) old new = ReadsWithin room last acts old new

-- Where a message is due, the session stops with Spent only where what may be read is used up; and there it
-- does, unless the wire failed before all of that was read, or memory was wanted.
abbrev pub SpentExactly : Type 0
SpentExactly =
    (s : Session) (act : Act) (acts : List Act) (room last : ℕ) (bytes : List ℕ) (new : Option (List ℕ)) →
    MayCome (Read s) act → ReadsWithin room last (act ∷ acts) (Some bytes) new →
    (act ≡ Stops causes.Spent → IsUsedUp room bytes) ×
    (IsUsedUp room bytes → (act ≡ Stops causes.Spent) ⊎ (act ≡ Stops causes.WireFault) ⊎ (act ≡ Stops causes.NoMemory))

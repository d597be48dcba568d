-- What a download leaves of the file that is wanted.
use Rattle.std.specs.Prelude.{◌≡◌, ◌≢◌, ◌<◌, ℕ, false, true, List, [], ◌++◌, length, None, IsFalse, IsSome, IsTrue}
use Rattle.std.specs.List.{list_all}
use Rattle.part_hashset.specs.HashSet.{ed2k}
use Rattle.part_hashset.specs.declared.aim.Aim.{Aim}
use Rattle.part_sizes.specs.Part.{data_parts}
use Rattle.reserve_core.specs.Desk.{own}
use Rattle.reserve_core.specs.Events.{events}
use Rattle.reserve_core.specs.Filled.{is_filled, is_full, is_uncommitted}
use Rattle.reserve_core.specs.Held.{holds}
use Rattle.reserve_core.specs.Verdicts.{is_failed, is_verified, lacks_set, parts, verdict_of}
use Rattle.reserve_core.specs.declared.event.Entry.{Entry}
use Rattle.reserve_core.specs.declared.event.Event.{Event}

-- every part of the file is verified in the log
abbrev pub IsComplete : Aim → List Event → Type 0
IsComplete aim h = IsTrue (list_all (is_verified aim h) (parts aim.size))

-- a file that is complete stays so
abbrev pub KeepsComplete : Aim → List Event → List Event → Type 0
KeepsComplete aim old new = IsComplete aim old → IsComplete aim new

-- the log is there, and says so
abbrev pub IsDone : Aim → List Entry → Type 0
IsDone aim log = (log ≢ []) × IsComplete aim (events log)

-- nothing is filled or judged, nothing waits for a commit, and no peer did anything
pub record IsNew (h : List Event) : Type 0 where
  pub empty : (n x : ℕ) → is_filled n h x ≡ false
  pub unjudged : (i : ℕ) → verdict_of h i ≡ None
  pub committed : is_uncommitted h ≡ false
  pub unowned : (p : ℕ) → own h p ≡ []

-- a full part has a verdict, once the hash set that it needs is kept
abbrev pub IsJudged : Aim → List Event → ℕ → Type 0
IsJudged aim h part = IsTrue (is_full aim.size h part) → IsFalse (lacks_set aim.size h) → IsSome (verdict_of h part)

-- each full part has a verdict, once the hash set that it needs is kept
abbrev pub AreJudged : Aim → List Event → Type 0
AreJudged aim h = (part : ℕ) → part < data_parts aim.size → IsJudged aim h part

-- what was judged stays so
abbrev pub KeepsJudged : Aim → List Event → List Event → Type 0
KeepsJudged aim old new = (part : ℕ) → IsJudged aim old part → IsJudged aim new part

-- nothing waits for a commit, and each full part has a verdict, once the hash set that it needs is kept
pub record IsSettled (aim : Aim) (h : List Event) : Type 0 where
  pub committed : IsFalse (is_uncommitted h)
  pub judged : AreJudged aim h

-- the part isn't failed
abbrev pub IsSound : Aim → List Event → ℕ → Type 0
IsSound aim h part = IsFalse (is_failed aim h part)

-- a part that isn't failed stays so
abbrev pub KeepsSound : Aim → List Event → List Event → Type 0
KeepsSound aim old new = (part : ℕ) → IsSound aim old part → IsSound aim new part

-- no part is failed: each whose digest was another was opened again
abbrev pub HasNoFailed : Aim → List Event → Type 0
HasNoFailed aim h = (part : ℕ) → part < data_parts aim.size → IsSound aim h part

-- what is settled stays so
abbrev pub KeepsSettled : Aim → List Event → List Event → Type 0
KeepsSettled aim old new = IsSettled aim old → IsSettled aim new

-- a log that is settled, with no failed part, stays as it is
abbrev pub RestsSettled : Aim → List Entry → List Entry → Type 0
RestsSettled aim log now = IsSettled aim (events log) → HasNoFailed aim (events log) → now ≡ log

-- the log goes on, with no event of a peer's own, and nothing more is filled
pub record GoesOn (old new : List Event) : Type 0 where
  pub more : List Event
  pub grows : new ≡ old ++ more
  pub foreign : (p : ℕ) → own more p ≡ []
  pub fills_none : (n x : ℕ) → is_filled n new x ≡ true → is_filled n old x ≡ true

-- the body has the size of the file that is wanted, and its hash
pub record IsFileOf (aim : Aim) (body : List ℕ) : Type 0 where
  pub size : length body ≡ aim.size
  pub hash : ed2k body ≡ aim.hash

-- at no moment was a position held by two peers
abbrev pub IsNeverShared : List Entry → Type 0
IsNeverShared log =
    (before later : List Entry) (p q x : ℕ) → log ≡ before ++ later → IsTrue (holds (events before) p x) → IsTrue (holds (events before) q x) → p ≡ q

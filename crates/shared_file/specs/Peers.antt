-- What a peer of a shared file knows, and what its calls change of that.
use Rattle.std.specs.Prelude.{◌≡◌, ◌≢◌, ℕ, ◌≤◌, ◌&&◌, Bool, true, false, List, [], ◌∷◌, ◌++◌, length, Option, None, Result, Err}
use Rattle.atomic_table.specs.Seated.{TableId}
use Rattle.atomic_table.specs.declared.shared.Seat.{Seat}
use Rattle.part_hashset.specs.declared.aim.Aim.{Aim}
use Rattle.part_store.specs.Origin.{origin_in}
use Rattle.reserve_core.specs.Desk.{own}
use Rattle.reserve_core.specs.DeskState.{DeskState, SameDesk, CallsDesk}
use Rattle.reserve_core.specs.Events.{events}
use Rattle.reserve_core.specs.declared.desk.Answer.{Answer}
use Rattle.reserve_core.specs.declared.desk.DeskAsk.{DeskAsk}
use Rattle.reserve_core.specs.declared.event.Entry.{Entry}
use Rattle.reserve_core.specs.declared.event.Event.{Event}
use Rattle.reserve_core.specs.declared.fault.DeskFault.{DeskFault}
use Rattle.reserve_core.specs.declared.fault.DeskFault.TheVariants as faults
use Rattle.turn_lock.specs.Views.{BeginsWith, IsSamePass, birth_of, later, owned_of, row_of, seen_of, start_of, start_row}
use Rattle.turn_lock.specs.declared.known.Known.{Known}
use Rattle.turn_lock.specs.declared.known.Stage.{Stage}
use Rattle.turn_lock.specs.declared.known.Stage.TheVariants.{Idle, Waits, Holds, Calls, Spent}
use Rattle.shared_file.specs.Notes.{entries, marks}
use Rattle.shared_file.specs.declared.noted.Noted.{Noted}

abbrev pub has_none : {A : Type 0} → List A → Bool
has_none [] = true
has_none (x ∷ xs) = false

module _ {T : Type 0} where
  abbrev pub is_idle : Stage T → Bool
  is_idle Idle = true
  is_idle (Waits t) = false
  is_idle (Holds t x) = false
  is_idle (Calls t) = false
  is_idle Spent = false

  -- the peer has no ticket and not the file
  abbrev pub at_rest : Seat (Option T) (Known T Noted Event) → Bool
  at_rest s = is_idle s.me.0.stage && has_none s.me.1

  -- the log that the peer has seen
  abbrev pub seen_log : Seat (Option T) (Known T Noted Event) → List Entry
  seen_log s = entries (seen_of s)

  -- how many marks of a broken file the peer has seen
  abbrev pub seen_marks : Seat (Option T) (Known T Noted Event) → ℕ
  seen_marks s = marks (seen_of s)

  -- the file that is wanted
  abbrev pub wanted_of : Seat (Option T) (Known T Noted Event) → Aim
  wanted_of s = (origin_in (birth_of s)).aim

  -- the peer belongs to the shared file whose table this is
  abbrev pub IsOf : TableId → Seat (Option T) (Known T Noted Event) → Type 0
  IsOf table s = s.table_id ≡ table

  -- the log that the peer has seen has all of its row
  abbrev pub HasRow : Seat (Option T) (Known T Noted Event) → ℕ → Type 0
  HasRow s n = length (row_of s) ≤ length (own (events (seen_log s)) n)

  -- and all of each row that the file was put in with
  abbrev pub HasStart : (T → ℕ → List Event) → Seat (Option T) (Known T Noted Event) → Type 0
  HasStart rows s = (n : ℕ) → length (start_row rows (start_of s) n) ≤ length (own (events (seen_log s)) n)

  -- the peer with a number as a desk, which others use too and which tells no body; a mark is a fault of the store
  abbrev pub desk_of : ℕ → Seat (Option T) (Known T Noted Event) → DeskState
  desk_of n s = record {
    wanted = wanted_of s;
    peer = n;
    origin = birth_of s;
    alone = false;
    body = None;
    seen = seen_log s;
    store_faults = seen_marks s;
  }

  -- A call of the peer with a number. The log that it has seen goes on with what others added, and then with the call's own
  -- entry, if it adds one; the answer is that of the log right before that entry; and the peer's row grows by the call's own
  -- event alone.
  pub record Serves (n : ℕ) (ask : DeskAsk) (answer : Answer) (old new : Seat (Option T) (Known T Noted Event)) : Type 0 where
    pub same : SameDesk (desk_of n old) (desk_of n new)
    pub served : CallsDesk ask answer (desk_of n old) (desk_of n new)
    pub row : row_of new ≡ row_of old ++ own (events served.mine) n
    pub exact : row_of new ≡ own (events (seen_log new)) n
    pub begins : BeginsWith (seen_of new) (seen_of old)
    pub marked : seen_marks old ≤ seen_marks new
    pub joined : later (owned_of new) ≡ later (owned_of old)
    pub pass : IsSamePass old new

  -- A question of the peer with a number. It adds nothing: the log goes on with what others added, which has no event of the
  -- peer's own.
  pub record Looks (n : ℕ) (old new : Seat (Option T) (Known T Noted Event)) : Type 0 where
    pub others : List Entry
    pub grows : seen_log new ≡ seen_log old ++ others
    pub foreign : own (events others) n ≡ []
    pub row : row_of new ≡ row_of old
    pub exact : row_of new ≡ own (events (seen_log new)) n
    pub begins : BeginsWith (seen_of new) (seen_of old)
    pub marked : seen_marks old ≤ seen_marks new
    pub joined : later (owned_of new) ≡ later (owned_of old)
    pub pass : IsSamePass old new

  -- where the file failed in the call or before, the peer has seen its mark, and for a fault the call put it there; after all
  -- other answers there is none
  pub record SeesMark {X : Type 0} (result : Result X DeskFault) (old new : Seat (Option T) (Known T Noted Event)) : Type 0 where
    pub fault : result ≡ Err faults.Fault → (seen_marks old ≡ 0) × (seen_marks new ≡ 1)
    pub broken : result ≡ Err faults.Broken → seen_marks new ≡ 1
    pub works : result ≢ Err faults.Fault → result ≢ Err faults.Broken → seen_marks new ≡ 0

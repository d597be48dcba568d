-- What a desk tells, and what a call on it changes of that.
use Rattle.std.specs.Prelude.{◌≡◌, ℕ, ◌<◌, Bool, List, Option, Result, IsFalse}
use Rattle.part_hashset.specs.declared.aim.Aim.{Aim}
use Rattle.reserve_core.specs.Desk.{HasStoreCause, IsDeskCall, own}
use Rattle.reserve_core.specs.Events.{events}
use Rattle.reserve_core.specs.Held.{is_holder}
use Rattle.reserve_core.specs.declared.desk.Answer.{Answer}
use Rattle.reserve_core.specs.declared.desk.DeskAsk.{DeskAsk}
use Rattle.reserve_core.specs.declared.event.Entry.{Entry}
use Rattle.reserve_core.specs.declared.fault.DeskFault.{DeskFault}

-- the file that is wanted, the peer's number, what the desk was made with, whether nobody else uses the file, its
-- body where it is told, the log as it was seen last, and how often the store failed
pub record DeskState : Type 0 where
  pub wanted : Aim
  pub peer : ℕ
  pub origin : List ℕ
  pub alone : Bool
  pub body : Option (List ℕ)
  pub seen : List Entry
  pub store_faults : ℕ

-- it is the desk of the same peer, made with the same
pub record SameDesk (old new : DeskState) : Type 0 where
  pub wanted : new.wanted ≡ old.wanted
  pub peer : new.peer ≡ old.peer
  pub origin : new.origin ≡ old.origin
  pub alone : new.alone ≡ old.alone

-- the call was served
abbrev pub CallsDesk : DeskAsk → Answer → DeskState → DeskState → Type 0
CallsDesk ask answer old new = IsDeskCall old.wanted old.peer old.alone ask answer old.seen new.seen old.body new.body

-- the call was served, and says why it failed
pub record AnswersAsk {T : Type 0} (ask : DeskAsk) (answer : Answer) (result : Result T DeskFault) (old new : DeskState) : Type 0 where
  pub same : SameDesk old new
  pub served : CallsDesk ask answer old new
  pub cause : HasStoreCause old.store_faults new.store_faults result

-- once the store failed, nothing of the peer's own is added
abbrev pub QuietOnceFailed : DeskState → DeskState → Type 0
QuietOnceFailed old new = 0 < old.store_faults → own (events new.seen) old.peer ≡ own (events old.seen) old.peer

-- where the store works, the peer holds nothing any more
abbrev pub FreesPeer : DeskState → DeskState → Type 0
FreesPeer old new = old.store_faults ≡ 0 → IsFalse (is_holder (events new.seen) old.peer)

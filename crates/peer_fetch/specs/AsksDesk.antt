-- What a desk that was asked answers.
use Rattle.std.specs.Prelude.{◌≡◌, ◌≤◌, ◌<◌, IsFalse, IsTrue}
use Rattle.reserve_core.specs.DeskState.{DeskState, SameDesk, CallsDesk}
use Rattle.reserve_core.specs.Events.{events}
use Rattle.reserve_core.specs.Held.{is_holder}
use Rattle.reserve_core.specs.declared.desk.Answer.{Answer}
use Rattle.reserve_core.specs.declared.desk.DeskAsk.{DeskAsk}
use Rattle.reserve_core.specs.declared.desk.DeskAsk.TheVariants as asks
use Rattle.peer_fetch.specs.Machine.{is_refusal}

-- The desk was asked. A release gives back what the peer holds, where the store works.
pub record AsksDesk (ask : DeskAsk) (answer : Answer) (old new : DeskState) : Type 0 where
  pub same : SameDesk old new
  pub served : CallsDesk ask answer old new
  pub faults : old.store_faults ≤ new.store_faults
  pub free : ask ≡ asks.Release → new.store_faults ≡ 0 → IsFalse (is_holder (events new.seen) old.peer)
  pub refusal : IsTrue (is_refusal answer) → 0 < new.store_faults

-- What a step of the machine does.
use Rattle.std.specs.Prelude.{◌≡◌, ◌-◌, ◌≤◌, ℕ, Bool, IsFalse, IsTrue}
use Rattle.part_hashset.specs.declared.aim.Aim.{Aim}
use Rattle.reserve_core.specs.declared.desk.Answer.{Answer}
use Rattle.reserve_core.specs.declared.desk.DeskAsk.{DeskAsk}
use Rattle.peer_fetch.specs.Machine.{Gives, IsLastAt, IsOfTheWire, IsOfferAt, StepKeeps, MayAsk, cause_of, has_part, is_asking, is_at_end, has_table_cause, is_released, may_end_with, is_refusal, offers as offered_then, on_answer, rank}
use Rattle.peer_fetch.specs.Plan.{Plan}
use Rattle.peer_fetch.specs.Table.{finish}
use Rattle.peer_fetch.specs.declared.cause.Cause.{Cause}
use Rattle.peer_fetch.specs.declared.machine.SessionState.{SessionState}
use Rattle.peer_fetch.specs.declared.machine.SessionState.TheVariants as state
use Rattle.peer_fetch.specs.declared.machine.FetchCore.{FetchCore}
use Rattle.peer_fetch.specs.declared.machine.Next.{Next}

-- The machine gives what the plan says, keeps to its file with at most so many steps to come, and is not behind the
-- release at the end. What the peer offered stays. It doesn't end, or by a cause that the table names.
pub record Steps (plan : Plan) (most : ℕ) (old new : FetchCore) (given : Next) : Type 0 where
  pub next : Gives plan given new.session new.at
  pub keeps : StepKeeps old.session.aim most given new.session new.at
  pub on : IsFalse (is_released new.at)
  pub offers : new.session.offered ≡ old.session.offered
  pub table_cause : IsTrue (has_table_cause new.at)

-- the same, but it may also end by a fault of the store, where one was told
pub record StepsOrFails (told : Bool) (plan : Plan) (most : ℕ) (old new : FetchCore) (given : Next) : Type 0 where
  pub next : Gives plan given new.session new.at
  pub keeps : StepKeeps old.session.aim most given new.session new.at
  pub on : IsFalse (is_released new.at)
  pub offers : new.session.offered ≡ old.session.offered
  pub may_end : IsTrue (may_end_with told (cause_of new.at))

-- it gives what the plan says, and what the peer offered stays
pub record StepsTo (plan : Plan) (most : ℕ) (old new : FetchCore) (given : Next) : Type 0 where
  pub next : Gives plan given new.session new.at
  pub keeps : StepKeeps old.session.aim most given new.session new.at
  pub offers : new.session.offered ≡ old.session.offered

-- at this state this may be asked
pub record IsAskable (aim : Aim) (at : SessionState) (ask : DeskAsk) : Type 0 where
  pub asking : IsTrue (is_asking at)
  pub table_cause : IsTrue (has_table_cause at)
  pub part : IsTrue (has_part aim at)
  pub offer : IsOfferAt at ask
  pub on : IsFalse (is_released at)
  pub end : IsLastAt at ask
  pub may : MayAsk aim ask

-- it begins to end with this cause: the peer's ranges are given back first
pub record Finishes (cause : Cause) (old new : FetchCore) (given : Next) : Type 0 where
  pub next : Gives (finish cause) given new.session new.at
  pub keeps : StepKeeps old.session.aim 2 given new.session new.at
  pub on : IsFalse (is_released new.at)
  pub offers : new.session.offered ≡ old.session.offered
  pub at : new.at ≡ state.EndReleases cause

-- It took the answer to what it asked. Where a fault of the store is no cause, its cause is the one from before.
pub record TakesAnswer (answer : Answer) (old new : FetchCore) (given : Next) : Type 0 where
  pub next : Gives (on_answer old.session old.at answer) given new.session new.at
  pub keeps : StepKeeps old.session.aim (rank old.at - 1) given new.session new.at
  pub free : IsTrue (is_released new.at) → IsTrue (is_at_end old.at)
  pub offers : new.session.offered ≡ offered_then old.session.offered old.at answer
  pub kept : IsFalse (may_end_with (is_refusal answer) (cause_of new.at)) → cause_of new.at ≡ cause_of old.at
  pub heavy : IsOfTheWire given → 3 ≤ rank old.at

-- What a call of a session did, over its wire and its desk.
use Rattle.std.specs.Prelude.{◌≡◌, ◌↔◌, ◌≤◌, ◌<◌, ℕ, [], Some, IsFalse, IsTrue}
use Rattle.reserve_core.specs.DeskState.{DeskState, SameDesk}
use Rattle.reserve_core.specs.Events.{events}
use Rattle.reserve_core.specs.Held.{is_holder}
use Rattle.peer_fetch.specs.Fetches.{Called, Fetched}
use Rattle.peer_fetch.specs.Linked.{IsReady, Linked, outside, standing_of, wanted_by}
use Rattle.peer_fetch.specs.Machine.{is_ready}
use Rattle.peer_fetch.specs.Moves.{IsBlamed, Later}
use Rattle.ed2k_outside.specs.WireMembers.{WireMembers}
use Rattle.peer_fetch.specs.declared.cause.Cause.{Cause}
use Rattle.peer_fetch.specs.declared.cause.Cause.TheVariants as causes
use Rattle.peer_fetch.specs.declared.peer_end.PeerEnd.{PeerEnd}

-- what a call leaves of its link and its desk, and what is seen of the cause
pub record Leaves {W : Type 0} (m : WireMembers W) (budget : ℕ) (link now : Linked W) (desk after : DeskState) (told : Cause) : Type 0 where
  pub aim : wanted_by now ≡ desk.wanted
  pub same : SameDesk desk after
  pub faults : desk.store_faults ≤ after.store_faults
  pub free : after.store_faults ≡ 0 → IsFalse (is_holder (events after.seen) desk.peer)
  pub blame : IsBlamed budget after.store_faults told (outside m link) (outside m now)
  pub later : Later budget (outside m link) (outside m now)

-- a session went on until it ended
pub record RunsOn {W : Type 0} (m : WireMembers W) (budget : ℕ) (link now : Linked W) (desk after : DeskState) (cause : Cause) : Type 0 where
  pub called : Called budget desk.wanted desk.peer (standing_of m link desk) (standing_of m now after) cause
  pub ready : IsReady now ↔ (cause ≡ causes.NoBlock)
  pub leaves : Leaves m budget link now desk after cause

-- A call of the session. A later one may go on exactly where the peer is told to be alive.
pub record IsFetch {W : Type 0} (m : WireMembers W) (budget : ℕ) (link now : Linked W) (desk after : DeskState) (met : PeerEnd) : Type 0 where
  pub fetched : Fetched budget desk.wanted desk.peer (standing_of m link desk) (standing_of m now after) met
  pub ready : is_ready now.at ≡ met.alive
  pub number : met.number ≡ Some desk.peer
  pub asked : met.asked.items ≡ []
  pub alive : IsTrue met.alive ↔ (met.cause ≡ causes.NoBlock)
  pub leaves : Leaves m budget link now desk after met.cause

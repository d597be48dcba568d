-- What is told of a peer, by the log, and by its wire as it was connected and as it was given back.
use Rattle.std.specs.Prelude.{◌≡◌, ◌≢◌, ◌⊎◌, ◌↔◌, ℕ, ◌++◌, List, [], ◌∷◌, None, Some, IsFalse, IsTrue}
use Rattle.std.specs.Io.KnownBytes.{prepend_known}
use Rattle.ed2k_outside.specs.Causes.{Rose}
use Rattle.ed2k_outside.specs.Nets.{Told}
use Rattle.ed2k_outside.specs.declared.addr.Addr.{Addr}
use Rattle.part_hashset.specs.declared.aim.Aim.{Aim}
use Rattle.peer_fetch.specs.Fetches.{log_alone, standing}
use Rattle.peer_fetch.specs.Moves.{Draws, IsBlamed, Later, Outside}
use Rattle.peer_fetch.specs.Plan.{Begin}
use Rattle.peer_fetch.specs.declared.cause.Cause.TheVariants as causes
use Rattle.peer_fetch.specs.declared.peer_end.PeerEnd.{PeerEnd}
use Rattle.peer_fetch.specs.declared.session.Session.{Session}
use Rattle.reserve_core.specs.declared.event.Event.{Event}
use Rattle.ed2k_outside.specs.WireMembers.{WireMembers}
use Rattle.ed2k_node.specs.Talks.{TalksTo}
use Rattle.ed2k_node.specs.declared.rounds.TheConstants.{BUDGET}

-- a wire that nothing was taken of
abbrev pub fresh_outside : {W : Type 0} → WireMembers W → W → Outside
fresh_outside m wire = record {
  ahead = m.left wire;
  sent = m.sent wire;
  read_faults = m.read_faults wire;
  write_faults = m.write_faults wire;
  taken = 0;
  unread = [];
}

-- The peer's talk over a wire, from its first message on: over the bytes of the wire, the bytes sent on it, and
-- the log, which was the first and is the second now. What ended it is seen on the wire that was given back. At
-- most as many bytes as the budget were taken, and the wire that was given back has so many less.
pub record TalksOver {W : Type 0} (m : WireMembers W) (aim : Aim) (before now : List Event) (met : PeerEnd) (wire back : W) : Type 0 where
  pub session : Session
  pub new : Outside
  pub faults : ℕ
  pub names : session.aim ≡ aim
  pub talks : TalksTo aim (standing (record { plan = Begin session; offered = [] }) (fresh_outside m wire) (log_alone before)) new now met
  pub blamed : IsBlamed BUDGET faults met.cause (fresh_outside m wire) new
  pub later : Later BUDGET (fresh_outside m wire) new
  pub draws : Draws (fresh_outside m wire) new
  pub left_on : new.ahead ≡ prepend_known new.unread (m.left back)
  pub sent_on : new.sent ≡ m.sent back
  pub read_on : new.read_faults ≡ m.read_faults back
  pub written_on : new.write_faults ≡ m.write_faults back

-- one wire was connected and given back, and this holds of it
pub record WithWire {W : Type 0} (says : W → W → Type 0) (old new : Told W) : Type 0 where
  pub wire : W
  pub from : Addr
  pub back : W
  pub taken : old.left ≡ (wire, from) ∷ new.left
  pub given_back : new.closed ≡ old.closed ++ back ∷ []
  pub holds : says wire back

-- the peer wasn't connected
pub record IsUnlinked (met : PeerEnd) : Type 0 where
  pub number : met.number ≡ None
  pub cause : met.cause ≡ causes.NoLink
  pub asked : met.asked.items ≡ []
  pub offered : met.offered ≡ []
  pub dead : IsFalse met.alive

-- the peer was connected, under the number 0: it was asked for no recovery data, and is alive exactly where
-- nothing was left to reserve
pub record IsLinked (met : PeerEnd) : Type 0 where
  pub number : met.number ≡ Some 0
  pub cause : met.cause ≢ causes.NoLink
  pub asked : met.asked.items ≡ []
  pub alive : IsTrue met.alive ↔ (met.cause ≡ causes.NoBlock)

-- a call on the wire failed
abbrev pub FailedOn : {W : Type 0} → WireMembers W → W → W → Type 0
FailedOn m wire back = Rose (m.read_faults wire) (m.read_faults back) ⊎ Rose (m.write_faults wire) (m.write_faults back)

-- A session over a wire, as its callers see it.
use Rattle.std.specs.Prelude.{◌≡◌, ℕ, List, [], IsTrue}
use Rattle.std.specs.Io.KnownBytes.{prepend_known}
use Rattle.part_hashset.specs.declared.aim.Aim.{Aim}
use Rattle.reserve_core.specs.DeskState.{DeskState}
use Rattle.peer_fetch.specs.Fetches.{Due, Standing, due_now, inside, standing}
use Rattle.peer_fetch.specs.Machine.{is_ready}
use Rattle.peer_fetch.specs.Moves.{Outside}
use Rattle.ed2k_outside.specs.WireMembers.{WireMembers}
use Rattle.peer_fetch.specs.declared.link.LinkCore.{LinkCore}
use Rattle.peer_fetch.specs.declared.machine.SessionState.{SessionState}
use Rattle.peer_fetch.specs.declared.machine.SessionState.TheVariants as state
use Rattle.peer_fetch.specs.declared.session.Session.{Session}

-- its wire, how far it has come, and the bytes of the wire that it took and didn't read yet
pub record Linked (W : Type 0) : Type 0 where
  pub wire : W
  pub session : Session
  pub at : SessionState
  pub unread : List ℕ
  pub taken : ℕ

-- what callers see of its fields
abbrev pub linked_by : {W : Type 0} → LinkCore W → Linked W
linked_by core = record {
  wire = core.wire;
  session = core.core.session;
  at = core.core.at;
  unread = core.reader.rest;
  taken = core.taken;
}

-- the file that is wanted
abbrev pub wanted_by : {W : Type 0} → Linked W → Aim
wanted_by link = link.session.aim

-- what is due, and what the peer offered so far
abbrev pub due_of : {W : Type 0} → Linked W → Due
due_of link = due_now link.session link.at

-- a call may begin
abbrev pub IsReady : {W : Type 0} → Linked W → Type 0
IsReady link = IsTrue (is_ready link.at)

-- what stands outside of it
abbrev pub outside : {W : Type 0} → WireMembers W → Linked W → Outside
outside m link = record {
  ahead = prepend_known link.unread (m.left link.wire);
  sent = m.sent link.wire;
  read_faults = m.read_faults link.wire;
  write_faults = m.write_faults link.wire;
  taken = link.taken;
  unread = link.unread;
}

-- where it stands over a desk
abbrev pub standing_of : {W : Type 0} → WireMembers W → Linked W → DeskState → Standing
standing_of m link desk = standing (due_of link) (outside m link) (inside desk)

-- nothing was done yet
pub record IsFresh {W : Type 0} (wire : W) (aim : Aim) (link : Linked W) : Type 0 where
  pub wired : link.wire ≡ wire
  pub aimed : link.session.aim ≡ aim
  pub offered : link.session.offered ≡ []
  pub fresh : link.at ≡ state.Fresh
  pub unread : link.unread ≡ []
  pub taken : link.taken ≡ 0

use Rattle.std.proofs.Common.{◌≡◌, ◌≤◌, IsFalse, IsTrue}
use Rattle.reserve_core.specs.Events.{events}
use Rattle.reserve_core.specs.Held.{is_holder}
use Rattle.ed2k_outside.specs.WireMembers.{members}
use Rattle.peer_fetch.specs.Fetches.{Fetches, due_in_call, inside_by}
use Rattle.peer_fetch.specs.Machine.{MaySay, is_released}
use Rattle.peer_fetch.specs.Moves.{Sees, as_next, outside, weight}
use Rattle.peer_fetch.proofs.fetch_call.run.Given as goal

abbrev pub invariant-asks : goal.invariant-asks
invariant-asks g l =
    let see = outside (members g.W.Source g.W.Sink g.W.Wire) in
    let look = inside_by g.A.DeskAccess.state in
    let file = (g.A.DeskAccess.state l.fn.desk).wanted in
    let number = (g.A.DeskAccess.state l.fn.desk).peer in
    record {
      reaches : g.A.DeskAccess.reaches l.access l.desk;
      fetches : Fetches l.budget file number (due_in_call l.fn.link.core.session l.fn.link.core.at) (see l.fn.link) (see l.link) (look l.fn.desk) (look l.desk) (as_next l.step) l.link.core.session l.link.core.at;
      aim : l.link.core.session.aim ≡ file;
      may : MaySay file (as_next l.step) l.link.core.at;
      free : (g.A.DeskAccess.state l.desk).store_faults ≡ 0 → IsTrue (is_released l.link.core.at) → IsFalse (is_holder (events (g.A.DeskAccess.state l.desk).seen) number);
      sees : Sees l.budget (g.A.DeskAccess.state l.desk).store_faults (see l.fn.link) (see l.link) l.link.core.at;
      wanted : (g.A.DeskAccess.state l.desk).wanted ≡ file;
      peer : (g.A.DeskAccess.state l.desk).peer ≡ number;
      alone : (g.A.DeskAccess.state l.desk).alone ≡ (g.A.DeskAccess.state l.fn.desk).alone;
      origin : (g.A.DeskAccess.state l.desk).origin ≡ (g.A.DeskAccess.state l.fn.desk).origin;
      faults : (g.A.DeskAccess.state l.fn.desk).store_faults ≤ (g.A.DeskAccess.state l.desk).store_faults;
    }

abbrev pub decreases-asks : goal.decreases-asks
decreases-asks g l =
    let see = outside (members g.W.Source g.W.Sink g.W.Wire) in
    weight l.budget (see l.link) l.link.core.at

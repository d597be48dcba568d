use Rattle.std.proofs.Common.{◌+◌, ◌*◌, ◌<◌, IsSome}
use Rattle.ed2k_outside.specs.WireMembers.{members}
use Rattle.peer_fetch.specs.Machine.{IsOfTheWire}
use Rattle.peer_fetch.specs.Moves.{Enters, IsLighter, bytes_to_come, state_of, turns, weight}
use Rattle.peer_fetch.proofs.link.LinkCore.step.Given as goal

abbrev pub invariant-turns : goal.invariant-turns
invariant-turns g l =
    let see = state_of (members g.W.Source g.W.Sink g.W.Wire) in
    let first = see l.fn.self in
    let here = see l.self in
    record {
      enters : Enters l.budget l.fn.answer first here l.next;
      lighter : IsLighter l.budget l.fn.answer first here;
      heavy : IsSome l.fn.answer → IsOfTheWire l.next → 16 * bytes_to_come l.budget here.outside + 2 < weight l.budget first.outside first.at;
    }

abbrev pub decreases-turns : goal.decreases-turns
decreases-turns g l =
    let here = state_of (members g.W.Source g.W.Sink g.W.Wire) l.self in
    turns l.budget l.next here.outside here.at

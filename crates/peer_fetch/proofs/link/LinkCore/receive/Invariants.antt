use Rattle.std.proofs.Common.{◌≡◌, ◌-◌}
use Rattle.ed2k_outside.specs.WireMembers.{members}
use Rattle.peer_fetch.specs.Moves.{Draws, Looks, bytes_to_come, outside}
use Rattle.peer_fetch.proofs.link.LinkCore.receive.Given as goal

abbrev pub invariant-frames : goal.invariant-frames
invariant-frames g l =
    let see = outside (members g.W.Source g.W.Sink g.W.Wire) in
    record {
      core : l.self.core ≡ l.fn.self.core;
      draws : Draws (see l.fn.self) (see l.self);
      room : bytes_to_come l.budget (see l.self) ≡ bytes_to_come l.budget (see l.fn.self);
      looks : Looks l.budget (see l.fn.self) (see l.self);
      ahead : (see l.self).ahead ≡ (see l.fn.self).ahead;
    }

abbrev pub decreases-frames : goal.decreases-frames
decreases-frames g l = l.budget - l.self.taken

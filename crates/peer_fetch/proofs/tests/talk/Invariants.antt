use Rattle.ed2k_outside.specs.MemWires.{wire_beside_left, wire_beside_sent, wire_left, wire_ports, wire_reach_count, wire_read_count, wire_sent, wire_write_count}
use Rattle.std.proofs.Common.{Some}
use Rattle.peer_fetch.specs.Machine.{MaySay}
use Rattle.peer_fetch.specs.Moves.{as_next, outside, weight}
use Rattle.peer_fetch.proofs.tests.talk.Given as goal

abbrev pub invariant-asks : goal.invariant-asks
invariant-asks l = MaySay l.link.core.session.aim (as_next l.step) l.link.core.at

abbrev pub decreases-asks : goal.decreases-asks
decreases-asks l =
    let see = outside (record { sent = λ wire. Some (wire_sent wire); write_faults = wire_write_count; beside_sent = wire_beside_sent; left = λ wire. Some (wire_left wire); read_faults = wire_read_count; beside_left = wire_beside_left; ports = λ wire. Some (wire_ports wire); reach_faults = wire_reach_count }) in
    weight l.budget (see l.link) l.link.core.at

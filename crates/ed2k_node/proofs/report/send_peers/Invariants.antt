use Rattle.std.proofs.Common.{◌≤◌, take}
use Rattle.reserve_core.specs.Events.{events}
use Rattle.ed2k_node.specs.Report.{peer_lines}
use Rattle.ed2k_node.specs.Sent.{IsSent}
use Rattle.ed2k_node.proofs.report.send_peers.Given as goal

abbrev pub invariant-loop-place : goal.invariant-loop-place
invariant-loop-place g l = record {
  sent : IsSent (g.O.Sink.sent l.fn.out) (g.O.Sink.sent l.out) (peer_lines (events l.log) 0 (take l.place l.peers));
  later : g.O.Sink.write_faults l.fn.out ≤ g.O.Sink.write_faults l.out;
}

use Rattle.std.proofs.Common.{◌≡◌, ◌≤◌, ◌*◌, take}
use Rattle.std.specs.List.{sum_by}
use Rattle.reserve_core.specs.Events.{events}
use Rattle.ed2k_node.specs.Report.{bytes_of}
use Rattle.ed2k_node.proofs.report.bytes_from.Given as goal

abbrev pub invariant-loop-entry : goal.invariant-loop-entry
invariant-loop-entry l = record {
  summed : l.sum ≡ sum_by (bytes_of l.peer) (events (take l.entry-index l.log));
  small : l.sum ≤ l.entry-index * 18446744073709551615;
}

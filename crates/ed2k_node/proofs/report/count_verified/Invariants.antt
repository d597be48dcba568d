use Rattle.std.proofs.Common.{◌≡◌, ◌≤◌}
use Rattle.std.specs.List.{count_by, range_with_len}
use Rattle.reserve_core.specs.Events.{events}
use Rattle.reserve_core.specs.Verdicts.{is_verified}
use Rattle.ed2k_node.proofs.report.count_verified.Given as goal

abbrev pub invariant-loop-part : goal.invariant-loop-part
invariant-loop-part g l = record {
  counted : l.count ≡ count_by (is_verified l.file.aim (events l.file.log)) (range_with_len 0 l.part);
  few : l.count ≤ l.part;
}

use Rattle.std.proofs.Common.{◌≤◌, ◌+◌, drop}
use Rattle.byte_ranges.specs.Spans.{IsApart}
use Rattle.journal_core.proofs.folded.are_apart.Given as goal

abbrev pub invariant-loop-span : goal.invariant-loop-span
invariant-loop-span l = record {
  low : l.low ≤ l.size + 1;
  to : IsApart 0 (l.size + 1) l.spans → IsApart l.low (l.size + 1) (drop l.span-index l.spans);
  from : IsApart l.low (l.size + 1) (drop l.span-index l.spans) → IsApart 0 (l.size + 1) l.spans;
}

use Rattle.std.proofs.Common.{◌≡◌, ◌+◌, ◌*◌, ◌++◌, length}
use Rattle.journal_core.specs.Records.{AreSpans, spell_spans}
use Rattle.journal_core.proofs.payload.read_spans.Given as goal

abbrev pub invariant-loop : goal.invariant-loop
invariant-loop l = record {
  count : length l.spans.items ≡ l.counter;
  fit : AreSpans l.spans.items;
  left : length l.rest + 16 * l.counter ≡ 16 * l.count;
  spelled : l.bytes ≡ spell_spans l.spans.items ++ l.rest;
}

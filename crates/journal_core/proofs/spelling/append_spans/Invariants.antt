use Rattle.std.proofs.Common.{◌≡◌, ◌++◌, take}
use Rattle.journal_core.specs.Records.{AreSpans, spell_spans}
use Rattle.journal_core.proofs.spelling.append_spans.Given as goal

abbrev pub invariant-loop-span : goal.invariant-loop-span
invariant-loop-span l = record {
  written : l.out.items ≡ l.fn.out.items ++ spell_spans (take l.span-index l.spans);
  fit : AreSpans (take l.span-index l.spans);
}

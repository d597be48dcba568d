use Rattle.std.proofs.Common.{subst, arith}
use Rattle.std.proofs.lemmas.List.{take_all}
use Rattle.journal_core.specs.Records.{AreSpans}
use Rattle.journal_core.proofs.Spelled.{spans-fit, spans-more}
use Rattle.journal_core.proofs.spelling.append_spans.Goals as goal

pub loop-span-preserved : goal.loop-span-preserved
loop-span-preserved c = record {
  written = spans-more c.args.spans.now c.loop-span.span-index _ c.args.out.now.items _ _ _ c.loop-span-test.true c.loop-span.invariant.written c.in_ok-append_u64.ensures.written c.in_ok-append_u64-2.ensures.written;
  fit = spans-fit c.args.spans.now c.loop-span.span-index _ c.loop-span-test.true c.loop-span.invariant.fit c.append_u64.ensures.fits c.append_u64-in-loop-span.ensures.fits;
}

pub returns-clause-spans : goal.returns-clause-spans
returns-clause-spans c = subst AreSpans (take_all c.loop-span.span-index c.args.spans.now (omega (arith, c.loop-span-test))) c.loop-span.invariant.fit

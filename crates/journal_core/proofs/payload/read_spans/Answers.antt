use Rattle.std.proofs.Common.{◌≡◌, ℕ, ◌-◌, List, ◌∷◌, ◌++◌, [], length, length-drop, take, drop, ap, sym, subst, arith, length-append}
use Rattle.std.proofs.lemmas.List.{take_all}
use Rattle.byteorder.specs.Endian.{little_bytes}
use Rattle.part_sizes.specs.declared.span.Span.{Span}
use Rattle.journal_core.specs.Records.{AreSpans}
use Rattle.journal_core.proofs.Payloads.{spans-read}
use Rattle.journal_core.proofs.Spelled.{spans-push}
use Rattle.journal_core.proofs.payload.read_spans.Goals as goal

pub loop-preserved : goal.loop-preserved
loop-preserved c =
    let q = c.loop.spans.items in
    let span : Span = record { s = c.read_u64.result; e = c.read_u64-in-loop.result } in
    let rest = c.loop.rest.now in
    let whole : take (length rest - 8) (drop 8 rest) ≡ drop 8 rest = take_all (length rest - 8) (drop 8 rest) (omega (arith, length-drop 8 rest)) in
    let second : drop 8 rest ≡ little_bytes 8 span.e ++ drop 8 (drop 8 rest) = subst (λ (l : List ℕ). l ≡ little_bytes 8 span.e ++ drop 8 l) whole c.read_u64-in-loop.ensures in
    let items = c.in_ok-push.ensures.items in
    record {
      count = omega (arith, ap length items, length-append q (span ∷ []), c.loop.invariant.count);
      fit = subst AreSpans (sym items) (spans-push q span c.loop.invariant.fit (omega arith) (omega arith));
      left = omega arith;
      spelled = rw (items, c.split_at.ensures.back) (spans-read q span.s span.e c.args.bytes.now rest c.loop.invariant.spelled c.read_u64.ensures second);
    }

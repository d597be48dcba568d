use Rattle.std.proofs.Common.{ℕ, Option, ◌++◌, [], arith, find, length, ap, sym, ◌∙◌}
use Rattle.std.specs.List.{cons_option, filter_map, range_with_len}
use Rattle.part_sizes.specs.Block.{block_count, block_range}
use Rattle.part_sizes.specs.Span.{positions}
use Rattle.part_sizes.specs.declared.span.Span.{Span}
use Rattle.reserve_core.specs.Choice.{first_run}
use Rattle.reserve_core.specs.Free.{is_clear}
use Rattle.reserve_core.proofs.Choosing.{block-full, block-more, few-is, none-is, stays-none}
use Rattle.reserve_core.proofs.choice.add_runs.Goals as goal

pub returns-then-is_none-clause-items : goal.returns-then-is_none-clause-items
returns-then-is_none-clause-items c =
    let clear = is_clear c.args.filled.now.set c.args.holders.now in
    stays-none c.args.size clear c.args.part c.args.spans.now.items
    (sym (c.first_free.ensures ∙ ap (λ (r : Span). find clear (positions r)) c.part_range.ensures) ∙ none-is c.first_free.result (let said = c.is_none.ensures in let test = c.if-is_none.true in grind arith))
    c.requires.few

pub returns-then-as_slice-eq-SPANS-clause-items : goal.returns-then-as_slice-eq-SPANS-clause-items
returns-then-as_slice-eq-SPANS-clause-items c =
    block-full (λ (k : ℕ). first_run (is_clear c.args.filled.now.set c.args.holders.now) (block_range c.args.size c.args.part k)) c.args.spans.now.items c.loop-block.spans.items c.loop-block.block (block_count c.args.size c.args.part)
    (omega (arith, c.block_count-block-end.ensures.value, c.loop-block-test.true)) c.loop-block.invariant.0
    (omega (arith, ap length c.as_slice.ensures.value, c.if-as_slice-eq-SPANS.true))

pub loop-block-preserved : goal.loop-block-preserved
loop-block-preserved c =
    let clear = is_clear c.args.filled.now.set c.args.holders.now in
    let f = λ (k : ℕ). first_run clear (block_range c.args.size c.args.part k) in
    let xs = c.loop-block.spans.items in (
      c.push_some.ensures.items
          ∙ ap (λ (o : Option Span). xs ++ cons_option o []) (c.first_run-run.ensures ∙ ap (first_run clear) c.block_range.ensures)
          ∙ block-more f c.args.spans.now.items xs c.loop-block.block c.loop-block.invariant.0
          (omega (arith, ap length c.as_slice.ensures.value, few-is 3 xs (c.args.spans.now.items ++ filter_map f (range_with_len 0 c.loop-block.block)) c.loop-block.invariant.0, c.if-as_slice-eq-SPANS.false)),
      c.push_some.ensures.capacity ∙ c.loop-block.invariant.1,
    )

use Rattle.std.proofs.Common.{ap, sym, ◌∙◌, get_or, false, if◌then◌else◌}
use Rattle.part_sizes.specs.Span.{has}
use Rattle.byte_ranges.specs.RangeSet.{RangeSet}
use Rattle.std.specs.FinSet as set
use Rattle.journal_core.proofs.Folding.{blocks-kept, blocks-taken}
use Rattle.journal_core.proofs.folded.open_blocks.Goals as goal
use Rattle.journal_core.proofs.folded.open_blocks.Goals.{then-not-kept-from+in_ok-open_span, else-not-kept-from}

pub loop-block-preserved : goal.loop-block-preserved
loop-block-preserved c = elim c.if-not-kept-from.branch [
  | then-not-kept-from+in_ok-open_span w ↦ record {
    set = λ x. blocks-taken c.args.size c.args.part c.loop-block.block c.args.kept.now x (set.contains c.args.filled.now.set x) (set.contains c.if-not-kept-from.filled.set x) (set.contains c.loop-block.filled.set x)
        (ap (λ k. get_or c.args.kept.now k false) (sym c.from.ensures) ∙ w.if-not-kept-from.true)
        (ap (λ (ranges : RangeSet). set.contains ranges.set x) w.filled-is ∙ w.in_ok-open_span.ensures.set x ∙ ap (λ span. if has span x then false else set.contains c.loop-block.filled.set x) w.block_range.ensures)
        (c.loop-block.invariant.set x);
    size = ap (λ (ranges : RangeSet). ranges.size) w.filled-is ∙ w.open_span.ensures.size ∙ c.loop-block.invariant.size;
  }
  | else-not-kept-from w ↦ record {
    set = λ x. ap (λ (ranges : RangeSet). set.contains ranges.set x) w.filled-is
        ∙ blocks-kept c.args.size c.args.part c.loop-block.block c.args.kept.now x (set.contains c.args.filled.now.set x) (set.contains c.loop-block.filled.set x)
        (ap (λ k. get_or c.args.kept.now k false) (sym c.from.ensures) ∙ w.if-not-kept-from.false) (c.loop-block.invariant.set x);
    size = ap (λ (ranges : RangeSet). ranges.size) w.filled-is ∙ c.loop-block.invariant.size;
  }
]

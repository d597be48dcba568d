use Rattle.std.proofs.Common.{◌+◌, ◌<◌, ◌||◌, length, slice_index_or, take, ap, sym, ◌∙◌, arith}
use Rattle.std.specs.FinSet as set
use Rattle.std.specs.List.{list_any}
use Rattle.std.proofs.lemmas.List.Folds.{list_any_more}
use Rattle.byte_ranges.proofs.Members.{contains-union_span}
use Rattle.part_sizes.specs.Span.{has}
use Rattle.part_sizes.specs.declared.span.Span.{Span}
use Rattle.journal_core.proofs.Folding.{apart-at, or-or}
use Rattle.journal_core.proofs.folded.fill_all.Goals as goal

pub add-requires-clause-within : goal.add-requires-clause-within
add-requires-clause-within c =
    let at = apart-at 0 (c.args.filled.now.size + 1) c.args.spans.now c.loop-span.span-index (record { s = 0; e = 0 }) c.requires.apart (omega arith) in
    (at.0, omega (arith, at.1, c.loop-span.invariant.size, c.reserve.ensures.size))

pub loop-span-preserved : goal.loop-span-preserved
loop-span-preserved c =
    let spans = c.args.spans.now in
    let index = c.loop-span.span-index in
    let none : Span = record { s = 0; e = 0 } in
    let below : index < length spans = omega arith in
    record {
      set = λ x.
          ap (λ members. set.contains members x) c.add.ensures.set
          ∙ contains-union_span c.reserve.new.self.set (slice_index_or spans index none) x
          ∙ ap (λ members. set.contains members x || has (slice_index_or spans index none) x) c.reserve.ensures.set
          ∙ ap (λ b. b || has (slice_index_or spans index none) x) (c.loop-span.invariant.set x)
          ∙ or-or (set.contains c.args.filled.now.set x) (list_any (λ r. has r x) (take index spans)) (has (slice_index_or spans index none) x)
          ∙ ap (λ b. set.contains c.args.filled.now.set x || b) (sym (list_any_more (λ r. has r x) spans index none below));
      size = c.add.ensures.size ∙ c.reserve.ensures.size ∙ c.loop-span.invariant.size;
    }

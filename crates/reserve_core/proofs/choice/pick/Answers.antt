use Rattle.std.proofs.Common.{ℕ, ◌<◌, false, List, arith, get_or, length, slice_index_or, take, ap, sym, ◌∙◌}
use Rattle.std.proofs.lemmas.List.{take_all}
use Rattle.std.proofs.lemmas.List.Elements.{filter_more}
use Rattle.std.specs.List.{filter, flat_map}
use Rattle.reserve_core.specs.Free.{is_clear, runs_in}
use Rattle.reserve_core.proofs.Choosing.{part-full, part-more}
use Rattle.reserve_core.proofs.choice.pick.Goals as goal

pub returns-then-as_slice-eq-SPANS : goal.returns-then-as_slice-eq-SPANS
returns-then-as_slice-eq-SPANS c =
    part-full (runs_in c.args.size (is_clear c.args.filled.now.set c.args.holders.now)) (λ (i : ℕ). get_or c.args.bits.now i false) c.loop-part.spans.items c.args.parts.now c.loop-part.part-index c.loop-part.invariant.0
    (omega (arith, ap length c.as_slice.ensures.value, c.if-as_slice-eq-SPANS.true))

pub loop-part-preserved : goal.loop-part-preserved
loop-part-preserved c =
    let f = runs_in c.args.size (is_clear c.args.filled.now.set c.args.holders.now) in
    let p = λ (i : ℕ). get_or c.args.bits.now i false in
    let parts = c.args.parts.now in
    let index = c.loop-part.part-index in
    let below : index < length parts = omega arith in
    let part = slice_index_or parts index 0 in (
      c.add_offered.ensures.items
          ∙ part-more f c.loop-part.spans.items (filter p (take index parts)) part (p part) c.loop-part.invariant.0
          ∙ ap (λ (is : List ℕ). take 3 (flat_map f is)) (sym (filter_more p parts index 0 below)),
      c.add_offered.ensures.capacity,
    )

pub returns : goal.returns
returns c =
    let f = runs_in c.args.size (is_clear c.args.filled.now.set c.args.holders.now) in
    c.loop-part.invariant.0 ∙ ap (λ (is : List ℕ). take 3 (flat_map f (filter (λ (i : ℕ). get_or c.args.bits.now i false) is))) (take_all c.loop-part.part-index c.args.parts.now c.loop-part-test.false)

use Rattle.std.proofs.Common.{◌+◌, ◌-◌, ◌<◌, Some, find, cond, ap, sym, ◌∙◌, arith}
use Rattle.std.specs.List.{range_with_len}
use Rattle.part_sizes.specs.Part.{data_parts}
use Rattle.reserve_core.specs.Events.{events}
use Rattle.reserve_core.specs.Seen.{Seen}
use Rattle.reserve_core.specs.Verdicts.{is_unjudged}
use Rattle.reserve_core.proofs.Lists.{find-front}
use Rattle.reserve_core.proofs.core_state.Core.next_unjudged.Goals as goal

pub returns-then-unjudged : goal.returns-then-unjudged
returns-then-unjudged c =
    let below : c.loop-part.part < data_parts c.args.self.now.aim.size = omega (arith, c.data_parts-part-end.ensures.value, ap (λ (v : Seen). data_parts v.aim.size) c.self.view_is) in
    sym (c.loop-part.invariant ∙ find-front (is_unjudged c.args.self.now.aim.size (events c.args.self.now.log)) c.loop-part.part (data_parts c.args.self.now.aim.size) below ∙ ap (λ b. cond b (Some c.loop-part.part) (find (is_unjudged c.args.self.now.aim.size (events c.args.self.now.log)) (range_with_len (c.loop-part.part + 1) (data_parts c.args.self.now.aim.size - (c.loop-part.part + 1))))) (sym c.unjudged.ensures ∙ c.if-unjudged.true))

pub loop-part-preserved : goal.loop-part-preserved
loop-part-preserved c =
    let below : c.loop-part.part < data_parts c.args.self.now.aim.size = omega (arith, c.data_parts-part-end.ensures.value, ap (λ (v : Seen). data_parts v.aim.size) c.self.view_is) in
    c.loop-part.invariant ∙ find-front (is_unjudged c.args.self.now.aim.size (events c.args.self.now.log)) c.loop-part.part (data_parts c.args.self.now.aim.size) below ∙ ap (λ b. cond b (Some c.loop-part.part) (find (is_unjudged c.args.self.now.aim.size (events c.args.self.now.log)) (range_with_len (c.loop-part.part + 1) (data_parts c.args.self.now.aim.size - (c.loop-part.part + 1))))) (sym c.unjudged.ensures ∙ c.if-unjudged.false)

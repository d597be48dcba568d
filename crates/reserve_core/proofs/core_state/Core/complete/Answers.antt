use Rattle.std.proofs.Common.{◌+◌, ◌-◌, ◌<◌, ◌&&◌, ap, sym, ◌∙◌, arith}
use Rattle.std.specs.List.{list_all, range_with_len}
use Rattle.part_sizes.specs.Part.{data_parts}
use Rattle.reserve_core.specs.Events.{events}
use Rattle.reserve_core.specs.Seen.{Seen}
use Rattle.reserve_core.specs.Verdicts.{is_verified}
use Rattle.reserve_core.proofs.Lists.{all-front}
use Rattle.reserve_core.proofs.core_state.Core.complete.Goals as goal

pub returns-then-not-verified : goal.returns-then-not-verified
returns-then-not-verified c =
    let below : c.loop-part.part < data_parts c.args.self.now.aim.size = omega (arith, c.data_parts-part-end.ensures.value, ap (λ (v : Seen). data_parts v.aim.size) c.self.view_is) in
    sym (c.loop-part.invariant ∙ all-front (is_verified c.args.self.now.aim (events c.args.self.now.log)) c.loop-part.part (data_parts c.args.self.now.aim.size) below ∙ ap (λ b. b && list_all (is_verified c.args.self.now.aim (events c.args.self.now.log)) (range_with_len (c.loop-part.part + 1) (data_parts c.args.self.now.aim.size - (c.loop-part.part + 1)))) (sym c.verified.ensures ∙ c.if-not-verified.true))

pub loop-part-preserved : goal.loop-part-preserved
loop-part-preserved c =
    let below : c.loop-part.part < data_parts c.args.self.now.aim.size = omega (arith, c.data_parts-part-end.ensures.value, ap (λ (v : Seen). data_parts v.aim.size) c.self.view_is) in
    c.loop-part.invariant ∙ all-front (is_verified c.args.self.now.aim (events c.args.self.now.log)) c.loop-part.part (data_parts c.args.self.now.aim.size) below ∙ ap (λ b. b && list_all (is_verified c.args.self.now.aim (events c.args.self.now.log)) (range_with_len (c.loop-part.part + 1) (data_parts c.args.self.now.aim.size - (c.loop-part.part + 1)))) (sym c.verified.ensures ∙ c.if-not-verified.false)

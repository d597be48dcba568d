use Rattle.std.proofs.Common.{arith, ◌≡◌, ◌∙◌, ap, cond}
use Rattle.reserve_core.specs.Events.{events}
use Rattle.reserve_core.specs.Verdicts.{is_verified}
use Rattle.ed2k_node.proofs.ReportLemmas.{bit, bit_low, count_more}
use Rattle.ed2k_node.proofs.report.count_verified.Goals as goal
use mir.Val.{bool_byte}

pub loop-part-preserved : goal.loop-part-preserved
loop-part-preserved g c =
    let file = c.args.file.now in
    let part = c.loop-part.part in
    let one : c.from-count.result ≡ cond (is_verified file.aim (events file.log) part) 1 0 = c.from-count.ensures ∙ ap bool_byte c.verified.ensures ∙ bit _ in
    record {
      counted = omega (arith, one, c.loop-part.invariant.counted, count_more (is_verified file.aim (events file.log)) part);
      few = omega (arith, one, bit_low (is_verified file.aim (events file.log) part), c.loop-part.invariant.few);
    }

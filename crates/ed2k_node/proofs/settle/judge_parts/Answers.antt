use Rattle.std.proofs.Common.{◌<◌, ◌∙◌, ap, subst, sym, List, ℕ, arith, below_more}
use Rattle.part_hashset.specs.declared.aim.Aim.{Aim}
use Rattle.part_sizes.specs.Part.{data_parts}
use Rattle.reserve_core.specs.Events.{events}
use Rattle.reserve_core.specs.declared.event.Entry.{Entry}
use Rattle.ed2k_node.specs.Left.{IsJudged}
use Rattle.ed2k_node.proofs.Reopening.{goes_through}
use Rattle.ed2k_node.proofs.settle.judge_parts.Goals as goal

pub loop-part-preserved : goal.loop-part-preserved
loop-part-preserved g c =
    let mid = c.loop-part.file in
    let new = c.judge.new.file in
    let same = c.loop-part.invariant.same.0 in
    let below : c.loop-part.part < data_parts c.args.file.now.aim.size = omega (arith, c.data_parts-part-end.ensures.value, ap (λ (aim : Aim). data_parts aim.size) c.aim.ensures.is) in
    let others = subst (λ (aim : Aim). (i : ℕ) → IsJudged aim (events mid.log) i → IsJudged aim (events new.log) i) same c.in_ok-judge.ensures.others in
    let own = subst (λ (aim : Aim). IsJudged aim (events new.log) c.loop-part.part) same c.in_ok-judge.ensures.judged in
    record {
      same = (c.in_ok-judge.ensures.same.0 ∙ c.loop-part.invariant.same.0, c.in_ok-judge.ensures.same.1 ∙ c.loop-part.invariant.same.1);
      files = c.in_ok-judge.ensures.files ∙ c.loop-part.invariant.files;
      goes_on = goes_through (events c.args.file.now.log) (events mid.log) (events new.log) c.loop-part.invariant.goes_on c.in_ok-judge.ensures.goes_on;
      still = λ all.
          let here = c.loop-part.invariant.still all in
          let judged_here = subst (λ (l : List Entry). IsJudged c.args.file.now.aim (events l) c.loop-part.part) (sym here) (all c.loop-part.part below) in
          c.in_ok-judge.ensures.still (subst (λ (aim : Aim). IsJudged aim (events mid.log) c.loop-part.part) (sym same) judged_here) ∙ here;
      judged = below_more _ _ (λ i low. others i (c.loop-part.invariant.judged i low)) own;
      committed = c.in_ok-judge.ensures.committed;
      later = omega (arith, c.in_ok-judge.ensures.later, c.loop-part.invariant.later);
      broken = λ broken. c.in_ok-judge.ensures.broken (c.loop-part.invariant.broken broken);
    }

pub returns-in_err-judge-clause-goes_on : goal.returns-in_err-judge-clause-goes_on
returns-in_err-judge-clause-goes_on g c =
    goes_through (events c.args.file.now.log) (events c.loop-part.file.log) (events c.judge.new.file.log) c.loop-part.invariant.goes_on c.in_err-judge.ensures.goes_on

pub returns-in_err-judge-clause-still : goal.returns-in_err-judge-clause-still
returns-in_err-judge-clause-still g c =
    let mid = c.loop-part.file in
    let same = c.loop-part.invariant.same.0 in
    let below : c.loop-part.part < data_parts c.args.file.now.aim.size = omega (arith, c.data_parts-part-end.ensures.value, ap (λ (aim : Aim). data_parts aim.size) c.aim.ensures.is) in
    λ all.
    let here = c.loop-part.invariant.still all in
    let judged_here = subst (λ (l : List Entry). IsJudged c.args.file.now.aim (events l) c.loop-part.part) (sym here) (all c.loop-part.part below) in
    c.in_err-judge.ensures.still (subst (λ (aim : Aim). IsJudged aim (events mid.log) c.loop-part.part) (sym same) judged_here) ∙ here

use Rattle.std.proofs.Common.{◌≡◌, ◌<◌, ◌∙◌, ap, subst, sym, List, ℕ, IsFalse, arith, below_more}
use Rattle.part_hashset.specs.declared.aim.Aim.{Aim}
use Rattle.part_sizes.specs.Part.{data_parts}
use Rattle.reserve_core.specs.Events.{events}
use Rattle.reserve_core.specs.Verdicts.{is_failed}
use Rattle.reserve_core.specs.declared.event.Entry.{Entry}
use Rattle.ed2k_node.specs.Left.{IsSettled}
use Rattle.ed2k_node.proofs.Reopening.{goes_through}
use Rattle.ed2k_node.proofs.settle.drop_failed.Goals as goal

pub loop-part-preserved : goal.loop-part-preserved
loop-part-preserved g c =
    let mid = c.loop-part.file in
    let new = c.reopen.new.file in
    let same = c.loop-part.invariant.same.0 in
    let below : c.loop-part.part < data_parts c.args.file.now.aim.size = omega (arith, c.data_parts-part-end.ensures.value, ap (λ (aim : Aim). data_parts aim.size) c.aim.ensures.is) in
    let others = subst (λ (aim : Aim). (i : ℕ) → IsFalse (is_failed aim (events mid.log) i) → IsFalse (is_failed aim (events new.log) i)) same c.in_ok-reopen.ensures.others in
    let own = subst (λ (aim : Aim). IsFalse (is_failed aim (events new.log) c.loop-part.part)) same c.in_ok-reopen.ensures.reopened in
    let settled = subst (λ (aim : Aim). IsSettled aim (events mid.log) → IsSettled aim (events new.log)) same c.in_ok-reopen.ensures.settled in
    record {
      same = (c.in_ok-reopen.ensures.same.0 ∙ c.loop-part.invariant.same.0, c.in_ok-reopen.ensures.same.1 ∙ c.loop-part.invariant.same.1);
      files = c.in_ok-reopen.ensures.files ∙ c.loop-part.invariant.files;
      goes_on = goes_through (events c.args.file.now.log) (events mid.log) (events new.log) c.loop-part.invariant.goes_on c.in_ok-reopen.ensures.goes_on;
      reopened = below_more _ _ (λ i low. others i (c.loop-part.invariant.reopened i low)) own;
      still = λ all.
          let here = c.loop-part.invariant.still all in
          let whole_here = subst (λ (l : List Entry). IsFalse (is_failed c.args.file.now.aim (events l) c.loop-part.part)) (sym here) (all c.loop-part.part below) in
          c.in_ok-reopen.ensures.still (subst (λ (aim : Aim). IsFalse (is_failed aim (events mid.log) c.loop-part.part)) (sym same) whole_here) ∙ here;
      settled = λ before. settled (c.loop-part.invariant.settled before);
      later = omega (arith, c.in_ok-reopen.ensures.later, c.loop-part.invariant.later);
      broken = λ broken. c.in_ok-reopen.ensures.broken (c.loop-part.invariant.broken broken);
    }

pub returns-in_err-reopen-clause-goes_on : goal.returns-in_err-reopen-clause-goes_on
returns-in_err-reopen-clause-goes_on g c =
    goes_through (events c.args.file.now.log) (events c.loop-part.file.log) (events c.reopen.new.file.log) c.loop-part.invariant.goes_on c.in_err-reopen.ensures.goes_on

pub returns-in_err-reopen-clause-still : goal.returns-in_err-reopen-clause-still
returns-in_err-reopen-clause-still g c =
    let mid = c.loop-part.file in
    let same = c.loop-part.invariant.same.0 in
    let below : c.loop-part.part < data_parts c.args.file.now.aim.size = omega (arith, c.data_parts-part-end.ensures.value, ap (λ (aim : Aim). data_parts aim.size) c.aim.ensures.is) in
    λ all.
    let here = c.loop-part.invariant.still all in
    let whole_here = subst (λ (l : List Entry). IsFalse (is_failed c.args.file.now.aim (events l) c.loop-part.part)) (sym here) (all c.loop-part.part below) in
    c.in_err-reopen.ensures.still (subst (λ (aim : Aim). IsFalse (is_failed aim (events mid.log) c.loop-part.part)) (sym same) whole_here) ∙ here

pub returns-clause-reopened : goal.returns-clause-reopened
returns-clause-reopened g c part within =
    let end : data_parts c.args.file.now.aim.size ≡ c.data_parts-part-end.result = sym (ap (λ (aim : Aim). data_parts aim.size) c.aim.ensures.is) ∙ sym c.data_parts-part-end.ensures.value in
    c.loop-part.invariant.reopened part (omega (arith, end, within, c.loop-part-test.false))

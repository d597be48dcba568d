use Rattle.std.proofs.Common.{◌∙◌, sym, ap, ◌++◌, List, ℕ, [], get_or}
use Rattle.part_hashset.proofs.SetLemmas.{joined_more}
use Rattle.part_hashset.proofs.check.joined_hash.Goals as goal

pub loop-member-preserved : goal.loop-member-preserved
loop-member-preserved c =
    let set = c.args.set.now in
    let i = c.loop-member.member-index in
    let longer = joined_more set i c.loop-member-test.true in
    c.update.ensures
    ∙ ap (λ (fed : List ℕ). fed ++ get_or set i []) c.loop-member.invariant
    ∙ sym longer

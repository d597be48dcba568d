use Rattle.std.proofs.Common.{◌∙◌, subst, OnOk}
use Rattle.part_hashset.specs.declared.aim.Aim.{Aim}
use Rattle.reserve_core.specs.Events.{events}
use Rattle.reserve_core.specs.Filled.{is_uncommitted}
use Rattle.ed2k_node.specs.Left.{HasNoFailed}
use Rattle.ed2k_node.proofs.Reopening.{goes_committed, goes_through, judge_kept, settle_kept, settle_still}
use Rattle.ed2k_node.proofs.Settling.{committed_now}
use Rattle.ed2k_node.proofs.settle.settle.Goals as goal

pub judge_parts-requires-clause-committed : goal.judge_parts-requires-clause-committed
judge_parts-requires-clause-committed g c =
    committed_now c.args.file.now.log c.commit.new.self.log (g.V.Vault.made c.commit.new.self.vault) c.in_ok-commit.ensures.log

pub returns-in_err-judge_parts-clause-kept : goal.returns-in_err-judge_parts-clause-kept
returns-in_err-judge_parts-clause-kept g c =
    judge_kept c.args.file.now.aim c.commit.new.self.aim c.args.file.now.log c.commit.new.self.log c.judge_parts.new.file.log (g.V.Vault.made c.commit.new.self.vault)
    c.in_ok-commit.ensures.same.0 c.in_ok-commit.ensures.log c.in_err-judge_parts.ensures.still

pub returns-clause-goes_on : goal.returns-clause-goes_on
returns-clause-goes_on g c =
    let first = c.args.file.now.log in
    let mid = c.commit.new.self.log in
    let last = c.judge_parts.new.file.log in
    let committed = goes_committed first mid (g.V.Vault.made c.commit.new.self.vault) (is_uncommitted (events first)) c.in_ok-commit.ensures.log in
    goes_through (events first) (events last) (events c.drop_failed.new.file.log)
    (goes_through (events first) (events mid) (events last) committed c.in_ok-judge_parts.ensures.goes_on) c.drop_failed.ensures.goes_on

pub returns-clause-reopened : goal.returns-clause-reopened
returns-clause-reopened g c =
    let same = c.in_ok-judge_parts.ensures.same.0 ∙ c.in_ok-commit.ensures.same.0 in
    subst (λ (aim : Aim). OnOk c.drop_failed.result (HasNoFailed aim (events c.drop_failed.new.file.log))) same c.drop_failed.ensures.reopened

pub returns-clause-still : goal.returns-clause-still
returns-clause-still g c =
    settle_still c.args.file.now.aim c.commit.new.self.aim c.judge_parts.new.file.aim c.args.file.now.log c.commit.new.self.log c.judge_parts.new.file.log c.drop_failed.new.file.log (g.V.Vault.made c.commit.new.self.vault)
    c.in_ok-commit.ensures.same.0 (c.in_ok-judge_parts.ensures.same.0 ∙ c.in_ok-commit.ensures.same.0) c.in_ok-commit.ensures.log c.in_ok-judge_parts.ensures.still c.drop_failed.ensures.still

pub returns-clause-kept : goal.returns-clause-kept
returns-clause-kept g c =
    settle_kept c.args.file.now.aim c.commit.new.self.aim c.judge_parts.new.file.aim c.args.file.now.log c.commit.new.self.log c.judge_parts.new.file.log c.drop_failed.new.file.log (g.V.Vault.made c.commit.new.self.vault)
    c.in_ok-commit.ensures.same.0 (c.in_ok-judge_parts.ensures.same.0 ∙ c.in_ok-commit.ensures.same.0) c.in_ok-commit.ensures.log c.in_ok-judge_parts.ensures.still c.drop_failed.ensures.still

pub returns-in_err-judge_parts-clause-goes_on : goal.returns-in_err-judge_parts-clause-goes_on
returns-in_err-judge_parts-clause-goes_on g c =
    let first = c.args.file.now.log in
    let mid = c.commit.new.self.log in
    goes_through (events first) (events mid) (events c.judge_parts.new.file.log)
    (goes_committed first mid (g.V.Vault.made c.commit.new.self.vault) (is_uncommitted (events first)) c.in_ok-commit.ensures.log) c.in_err-judge_parts.ensures.goes_on

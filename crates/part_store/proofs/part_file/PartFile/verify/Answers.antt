use Rattle.std.proofs.Common.{ap, is_ok}
use Rattle.std.proofs.lemmas.Result.{err_from_is_err_and}
use Rattle.part_store.proofs.Judged.{caused, hash-left, judged-exactly, judges-inside, part-hashed, refused-exactly, replies-judged, replies-refused}
use Rattle.part_store.proofs.Kept.{body-same, keeps-judged, keeps-vault}
use Rattle.part_store.proofs.Logs.{identity-same}
use Rattle.part_store.specs.Body.{log_of}
use Rattle.part_store.proofs.part_file.PartFile.verify.Goals as goal

pub returns-in_err-ready_verdict-clause-answer : goal.returns-in_err-ready_verdict-clause-answer
returns-in_err-ready_verdict-clause-answer g c =
    let e = err_from_is_err_and c.from_residual-in_err-ready_verdict.result c.from_residual-in_err-ready_verdict.ensures.1 in
    replies-refused _ _ c.args.part e.0 c.from_residual-in_err-ready_verdict.result c.self.view_is (caused _ e.0 _ c.in_err-ready_verdict.ensures e.2) e.1

pub returns-in_err-ready_verdict-clause-verified :
    goal.returns-in_err-ready_verdict-clause-verified
returns-in_err-ready_verdict-clause-verified g c =
    let e = err_from_is_err_and c.from_residual-in_err-ready_verdict.result c.from_residual-in_err-ready_verdict.ensures.1 in
    refused-exactly g.V.Vault.files _ _ c.args.part e.0 c.from_residual-in_err-ready_verdict.result c.self.view_is (caused _ e.0 _ c.in_err-ready_verdict.ensures e.2) e.1

pub invariant_of-self-2 : goal.invariant_of-self-2
invariant_of-self-2 g c =
    let hashed = part-hashed _ _ c.aim.result c.part_range-span.result c.args.part c.in-Ok.digest _ _ _ c.self.view_is c.requires c.aim.ensures c.part_range-span.ensures c.self.invariant.body c.hash.ensures.files c.in-Ok.ensures.hash in
    let kept = keeps-vault c.self.invariant c.hash.ensures.cause.later c.hash.ensures.made (identity-same c.hash.ensures.honest c.hash.ensures.placed (ap log_of c.hash.ensures.files)) (body-same _ _ _ _ _ c.hash.ensures.files c.self.invariant.body) (λ works. c.in-Ok.ensures.clean) in
    keeps-judged c.args.part c.in-Ok.digest (is_ok c.verdict.result) kept c.verdict.ensures.aim c.calls.ensures (hash-left _ _ _ _ c.hash.ensures.files hashed) c.verdict.ensures.log

pub returns-clause-answer : goal.returns-clause-answer
returns-clause-answer g c = replies-judged _ _ c.args.part c.in-Ok.digest c.verdict.result c.self.view_is c.verdict.ensures.answer

pub returns-clause-judged : goal.returns-clause-judged
returns-clause-judged g c =
    let hashed = part-hashed _ _ c.aim.result c.part_range-span.result c.args.part c.in-Ok.digest _ _ _ c.self.view_is c.requires c.aim.ensures c.part_range-span.ensures c.self.invariant.body c.hash.ensures.files c.in-Ok.ensures.hash in
    judges-inside g.V.Vault.files _ _ c.args.part c.calls.result _ c.in-Ok.digest _ c.verdict.result c.self.view_is c.calls.ensures hashed c.verdict.ensures.log c.verdict.ensures.verdict

pub returns-clause-verified : goal.returns-clause-verified
returns-clause-verified g c =
    let hashed = part-hashed _ _ c.aim.result c.part_range-span.result c.args.part c.in-Ok.digest _ _ _ c.self.view_is c.requires c.aim.ensures c.part_range-span.ensures c.self.invariant.body c.hash.ensures.files c.in-Ok.ensures.hash in
    judged-exactly g.V.Vault.files _ _ c.args.part c.in-Ok.digest c.verdict.result c.self.view_is c.in_ok-usable.ensures.broken c.in_ok-ready_verdict.ensures c.verdict.ensures.answer c.verdict.ensures.verdict hashed

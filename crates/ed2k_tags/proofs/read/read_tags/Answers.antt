use Rattle.std.proofs.Common.{◌+◌, length, ◌∙◌}
use Rattle.std.proofs.lemmas.Result.{err_from_is_err_and}
use Rattle.ed2k_tags.specs.TagLaws.{found_place, found_tail, same_place, not_refused, tail_is}
use Rattle.ed2k_tags.proofs.read.read_tags.Goals as goal

pub returns-in_err-tags-clause-only : goal.returns-in_err-tags-clause-only
returns-in_err-tags-clause-only c = λ tags text rest h e.
    let p = err_from_is_err_and c.from_residual.result c.from_residual.ensures.1 in
    rw (p.1, p.2) (not_refused tags rest (c.args.at + length text) c.in_err-tags.field-0.0 (c.in_err-tags.ensures.only tags text rest h (tail_is c.args.bytes.now c.args.at ∙ e)))

pub returns-clause-found : goal.returns-clause-found
returns-clause-found c =
    found_place c.args.bytes.now c.in_ok-tags.rest.now c.args.at c.saturating_sub.result c.in_ok-tags.tags.items c.requires c.saturating_sub.ensures (found_tail c.args.bytes.now c.in_ok-tags.rest.now c.args.at c.in_ok-tags.tags.items c.in_ok-tags.ensures.found)

pub returns-clause-only : goal.returns-clause-only
returns-clause-only c = λ tags text rest h e.
    same_place c.args.bytes.now c.in_ok-tags.rest.now c.args.at c.saturating_sub.result c.in_ok-tags.tags.items tags text rest c.requires c.saturating_sub.ensures e (c.in_ok-tags.ensures.only tags text rest h (tail_is c.args.bytes.now c.args.at ∙ e))

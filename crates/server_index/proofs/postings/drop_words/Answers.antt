use Rattle.std.proofs.Common.{◌∙◌, sym}
use Rattle.server_index.proofs.PostingLemmas.{drop_others, drop_kept}
use Rattle.server_index.proofs.SweptLemmas.{drop_one, keep_one, none_left, shrinks}
use Rattle.server_index.proofs.postings.drop_words.Goals as goal

pub loop-word-preserved-then-not-has_key : goal.loop-word-preserved-then-not-has_key
loop-word-preserved-then-not-has_key c = (
  c.in-Some.ensures.2,
  λ key h. drop_kept _ _ _ _ _ c.remove-was_there.ensures.updates (sym c.has_key.ensures ∙ c.if-not-has_key.true) key h ∙ c.loop-word.invariant.1 key h,
  λ q h. drop_others _ _ _ _ c.remove-was_there.ensures.updates q h ∙ c.loop-word.invariant.2 q h,
  shrinks _ _ _ _ c.remove-was_there.ensures.updates c.loop-word.invariant.3,
  drop_one _ _ c.args.spot c.args.name.now c.args.kept.now _ _ _ c.in-Some.ensures.0 c.remove-was_there.ensures.updates c.loop-word.invariant.4,
)

pub loop-word-preserved : goal.loop-word-preserved
loop-word-preserved c = (
  c.in-Some.ensures.2,
  c.loop-word.invariant.1,
  c.loop-word.invariant.2,
  c.loop-word.invariant.3,
  keep_one _ c.args.spot c.args.name.now c.args.kept.now _ _ _ c.in-Some.ensures.0 (sym c.has_key.ensures ∙ c.if-not-has_key.false) c.loop-word.invariant.4,
)

pub returns-clause-gone : goal.returns-clause-gone
returns-clause-gone c = none_left _ c.args.spot c.args.name.now c.args.kept.now _ c.in_default.ensures c.loop-word.invariant.4

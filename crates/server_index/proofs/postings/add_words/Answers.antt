use Rattle.server_index.proofs.PostingLemmas.{grows, add_step}
use Rattle.server_index.proofs.SweptLemmas.{add_one, rest_of_words, this_word}
use Rattle.server_index.proofs.postings.add_words.Goals as goal

pub loop-word-preserved : goal.loop-word-preserved
loop-word-preserved c = (
  c.in-Some.ensures.2,
  λ q h. grows _ _ _ c.in_ok-is_new.ensures.updates q (c.loop-word.invariant.1 q h),
  add_step _ _ _ _ c.args.name.now _ _ c.in_ok-is_new.ensures.updates c.in-Some.ensures.0 c.loop-word.invariant.2,
  rest_of_words c.args.name.now _ _ _ c.in-Some.ensures.0 c.loop-word.invariant.3,
  add_one _ _ _ _ c.args.spot c.args.name.now c.in_ok-is_new.ensures.updates (this_word c.args.name.now _ _ _ c.in-Some.ensures.0 c.loop-word.invariant.3) c.loop-word.invariant.4,
)

pub returns-clause-added : goal.returns-clause-added
returns-clause-added c = c.loop-word.invariant.4

pub returns-in_err-is_new-clause-added : goal.returns-in_err-is_new-clause-added
returns-in_err-is_new-clause-added c = λ q h. c.loop-word.invariant.4 q (rw c.in_err-is_new.ensures.err at h)

use Rattle.std.proofs.Common.{◌≡◌, ◌∙◌, sym, ap, ℕ, List}
use Rattle.std.specs.Prelude.{filter, ◌||◌}
use Rattle.std.specs.List.{list_any}
use Rattle.std.specs.BTreeMap.{is_at}
use Rattle.std.specs.BTreeMap.Range.{range_contains}
use Rattle.std.specs.BTreeSet.{contains}
use Rattle.std.proofs.lemmas.Bool.{or_left}
use Rattle.server_index.specs.Order.{posting_cmp}
use Rattle.server_index.proofs.PostingLemmas.{grows}
use Rattle.server_index.proofs.SearchLemmas.{in_part, collect_step}
use Rattle.server_index.proofs.merged.collect.Goals as goal

pub loop-posting-init : goal.loop-posting-init
loop-posting-init c =
    let inside = range_contains posting_cmp c.window.result.0 c.window.result.1 in
    let part : c.into_iter-posting-iterator.result ≡ filter inside c.args.postings.now.keys = c.into_iter-posting-iterator.ensures.into_iter_gives ∙ c.range-posting-items.ensures.between tt in (
      tt,
      tt,
      λ q h. h,
      λ q above there. or_left _ _ (ap (list_any (is_at (posting_cmp (c.args.key, q)))) part ∙ in_part c.args.postings.now inside (c.args.key, q) (c.window.ensures.reaches q above) there),
    )

pub loop-posting-preserved : goal.loop-posting-preserved
loop-posting-preserved c = (
  tt,
  tt,
  λ q h. grows _ _ _ c.in_ok-insert.ensures.updates q (c.loop-posting.invariant.2 q h),
  λ q above there. collect_step _ _ c.in-Some.posting.now c.loop-posting.posting-iterator c.next.new.self c.args.key q c.in_ok-insert.ensures.updates c.in-Some.ensures.steps (c.loop-posting.invariant.3 q above there),
)

pub returns-clause-all : goal.returns-clause-all
returns-clause-all c = λ q above there.
    ap (λ (l : List (ℕ × (List ℕ × ℕ))). list_any (is_at (posting_cmp (c.args.key, q))) l || contains posting_cmp c.loop-posting.list (1, q)) (sym c.in-None.ensures.steps.0) ∙ c.loop-posting.invariant.3 q above there

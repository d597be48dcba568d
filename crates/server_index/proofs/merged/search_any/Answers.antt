use Rattle.std.proofs.Common.{◌≡◌, ◌∙◌, ◌<◌, ◌+◌, sym, ap, refl, ℕ, List, [], ◌∷◌, length, drop, get_or, arith, add-one, drop-cons}
use Rattle.std.specs.Prelude.{◌||◌}
use Rattle.std.specs.List.{list_any}
use Rattle.std.specs.BTreeSet.{contains}
use Rattle.std.proofs.lemmas.Bool.{or_left}
use Rattle.std.proofs.lemmas.List.{drop_all}
use Rattle.search_expr.specs.Query.{query}
use Rattle.server_index.specs.Asked.{asks}
use Rattle.server_index.specs.Order.{posting_cmp}
use Rattle.server_index.proofs.SearchLemmas.{merge_step, one_listed}
use Rattle.server_index.proofs.merged.search_any.Goals as goal

pub loop-key-init : goal.loop-key-init
loop-key-init c = λ q above there. or_left _ _ there

pub loop-key-preserved : goal.loop-key-preserved
loop-key-preserved c =
    let lt : c.loop-key.key-index < length c.args.keys.now = omega arith in
    let cut : drop c.loop-key.key-index c.args.keys.now ≡ get_or c.args.keys.now c.loop-key.key-index 0 ∷ drop (c.loop-key.key-index + 1) c.args.keys.now = rw (add-one, drop-cons c.args.keys.now c.loop-key.key-index 0) refl in
    λ q above there. merge_step c.args.files.now.postings.set _ _ _ _ _ q cut c.in_ok-collect.ensures.grown (c.in_ok-collect.ensures.all q above) (c.loop-key.invariant q above there)

pub search_list-requires : goal.search_list-requires
search_list-requires c =
    let end : drop c.loop-key.key-index c.args.keys.now ≡ [] = drop_all c.loop-key.key-index c.args.keys.now c.loop-key-test.false in
    record {
      reached = λ q f at hit.
          let parts = one_listed c.args.files.now.live.entries c.args.files.now.postings.set (asks (query c.args.expr.now)) c.args.after.now c.args.keys.now c.requires.listed c.requires.driven q f at hit in
          ap (λ (l : List ℕ). list_any (λ k. contains posting_cmp c.args.files.now.postings.set (k, q)) l || contains posting_cmp c.loop-key.list (1, q)) (sym end) ∙ c.loop-key.invariant q parts.0 parts.1;
    }

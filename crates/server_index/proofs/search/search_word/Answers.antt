use Rattle.search_expr.specs.Query.{query}
use Rattle.server_index.specs.Asked.{asks}
use Rattle.std.proofs.Common.{◌≡◌, ◌∙◌, sym, ap, refl, List, [], ℕ, Some, None, arith, eq-eqb}
use Rattle.std.specs.Prelude.{filter}
use Rattle.std.specs.BTreeMap.Range.{range_contains}
use Rattle.std.proofs.lemmas.List.Kept.{IsStrictlySortedBy-filter}
use Rattle.server_index.specs.Order.{posting_cmp}
use Rattle.server_index.specs.Found as found
use Rattle.server_index.proofs.FoundLemmas.{found_turn}
use Rattle.server_index.proofs.Joined.{joined, joined-file}
use Rattle.server_index.proofs.SearchLemmas.{joined_all, reached, passed_over, or_false}
use Rattle.server_index.proofs.search.search_word.Goals as goal

pub loop-posting-init : goal.loop-posting-init
loop-posting-init c =
    let inside = range_contains posting_cmp c.window.result.0 c.window.result.1 in
    let all : filter (found.is_hit (asks (query c.args.expr.now)) c.args.after.now) (joined c.args.key c.args.files.now.live.entries (filter inside c.args.files.now.postings.set.keys)) ≡ filter (found.is_hit (asks (query c.args.expr.now)) c.args.after.now) c.args.files.now.live.entries =
    joined_all c.args.key c.args.files.now.live.entries (found.is_hit (asks (query c.args.expr.now)) c.args.after.now) (filter inside c.args.files.now.postings.set.keys) c.len-count.ensures.ordered
    (IsStrictlySortedBy-filter posting_cmp inside c.args.files.now.postings.set.keys c.range-posting-items.ensures.ordered)
    (reached c.args.files.now.live.entries c.args.files.now.postings.set (asks (query c.args.expr.now)) c.args.after.now c.args.key inside c.requires.listed (λ f m. or_false _ (c.requires.driven f m)) c.window.ensures.reaches) in
    let part : c.into_iter-posting-iterator.result ≡ filter inside c.args.files.now.postings.set.keys = c.into_iter-posting-iterator.ensures.into_iter_gives ∙ c.range-posting-items.ensures.between tt in (
      tt,
      tt,
      omega (arith, c.new-out.ensures.len),
      rw c.new-out.ensures.items (ap (found.goes_on [] None) (ap (λ (ks : List (ℕ × (List ℕ × ℕ))). filter (found.is_hit (asks (query c.args.expr.now)) c.args.after.now) (joined c.args.key c.args.files.now.live.entries ks)) part ∙ all)),
    )

pub loop-posting-preserved-in-Continue-1 : goal.loop-posting-preserved-in-Continue-1
loop-posting-preserved-in-Continue-1 c = (
  tt,
  tt,
  c.in_ok-consider.ensures.full,
  found_turn (asks (query c.args.expr.now)) c.args.after.now c.loop-posting.last c.consider.new.last c.loop-posting.out.items c.consider.new.out.items _ (c.in-Some.posting.now.1, c.in-Some-get.file.now)
      (joined c.args.key c.args.files.now.live.entries c.loop-posting.posting-iterator) (joined c.args.key c.args.files.now.live.entries c.next.new.self)
      (ap (joined c.args.key c.args.files.now.live.entries) c.in-Some.ensures.steps ∙ joined-file c.args.key c.args.files.now.live.entries c.in-Some.posting.now c.next.new.self (Some c.in-Some-get.file.now) (eq-eqb _ _ c.if-word-key.false) (sym c.in-Some-get.ensures.value))
      c.in_ok-consider.ensures.ok c.loop-posting.invariant.3,
)

pub loop-posting-preserved-then-not-has_all : goal.loop-posting-preserved-then-not-has_all
loop-posting-preserved-then-not-has_all c =
    let over : filter (found.is_hit (asks (query c.args.expr.now)) c.args.after.now) (joined c.args.key c.args.files.now.live.entries c.loop-posting.posting-iterator) ≡ filter (found.is_hit (asks (query c.args.expr.now)) c.args.after.now) (joined c.args.key c.args.files.now.live.entries c.next.new.self) =
    ap (λ (l : List (ℕ × (List ℕ × ℕ))). filter (found.is_hit (asks (query c.args.expr.now)) c.args.after.now) (joined c.args.key c.args.files.now.live.entries l)) c.in-Some.ensures.steps
    ∙ passed_over c.args.files.now.live.entries c.args.files.now.postings.set (asks (query c.args.expr.now)) c.args.after.now c.args.key c.args.needed.now c.in-Some.posting.now c.next.new.self c.requires.listed c.requires.needed (sym c.has_all.ensures ∙ c.if-not-has_all.true) _ refl in
    (tt, tt, c.loop-posting.invariant.2, ap (found.goes_on c.loop-posting.out.items c.loop-posting.last) (sym over) ∙ c.loop-posting.invariant.3)

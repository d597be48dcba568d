use Rattle.std.proofs.Common.{◌≡◌, ◌∙◌, ap, List, [], ℕ, None, arith, rules}
use Rattle.std.specs.Prelude.{filter}
use Rattle.search_expr.specs.Query.{query}
use Rattle.server_index.specs.Asked.{asks}
use Rattle.server_index.specs.Found as found
use Rattle.server_index.proofs.Joined.{joined}
use Rattle.server_index.proofs.SearchLemmas.{joined_all}
use Rattle.server_index.proofs.merged.search_list.Goals as goal

pub loop-posting-init : goal.loop-posting-init
loop-posting-init c =
    let all : filter (found.is_hit (asks (query c.args.expr.now)) c.args.after.now) (joined 1 c.args.files.now.live.entries c.args.list.now.keys) ≡ filter (found.is_hit (asks (query c.args.expr.now)) c.args.after.now) c.args.files.now.live.entries =
    joined_all 1 c.args.files.now.live.entries (found.is_hit (asks (query c.args.expr.now)) c.args.after.now) c.args.list.now.keys c.len-count.ensures.ordered c.len-spots.ensures.ordered c.requires.reached in
    let part : c.into_iter-posting-iterator.result ≡ c.args.list.now.keys = search rules in (
      tt,
      tt,
      omega (arith, c.new-out.ensures.len),
      rw c.new-out.ensures.items (ap (found.goes_on [] None) (ap (λ (ks : List (ℕ × (List ℕ × ℕ))). filter (found.is_hit (asks (query c.args.expr.now)) c.args.after.now) (joined 1 c.args.files.now.live.entries ks)) part ∙ all)),
    )

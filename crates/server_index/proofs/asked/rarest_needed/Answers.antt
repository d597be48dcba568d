use Rattle.std.proofs.Common.{◌≡◌, ◌∙◌, ◌++◌, [], ◌∷◌, ap, map, List, ℕ, rules, slice_index_or}
use Rattle.std.specs.List.{list_all, list_any}
use Rattle.search_expr.specs.Query.{query}
use Rattle.search_expr.specs.Needs.{needs}
use Rattle.server_index.specs.Asked.{has_key}
use Rattle.server_index.specs.Words.{key_of}
use Rattle.server_index.proofs.AskedLemmas.{one_has}
use Rattle.server_index.proofs.asked.rarest_needed.Goals as goal

pub returns : goal.returns
returns c = λ f meets.
    let is : c.as_slice-keys.result.now ≡ map key_of (needs (query c.args.expr.now)) = search rules in
    let one : c.push.new.self.items ≡ slice_index_or c.as_slice-keys.result.now c.rarest.result 0 ∷ [] = c.in_ok-push.ensures.items ∙ ap (λ (l : List ℕ). l ++ slice_index_or c.as_slice-keys.result.now c.rarest.result 0 ∷ []) c.new-out.ensures.items in
    ap (list_any (has_key f)) one ∙ one_has (has_key f) c.as_slice-keys.result.now c.rarest.result c.rarest.ensures.there (ap (list_all (has_key f)) is ∙ c.needs_keys.ensures key_of (query c.args.expr.now) _ meets)

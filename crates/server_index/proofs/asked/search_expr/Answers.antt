use Rattle.std.proofs.Common.{◌≡◌, ◌∙◌, ap, map, rules}
use Rattle.std.specs.List.{list_all}
use Rattle.search_expr.specs.Query.{query}
use Rattle.search_expr.specs.Needs.{needs}
use Rattle.server_index.specs.Asked.{has_key}
use Rattle.server_index.specs.Words.{key_of}
use Rattle.server_index.proofs.AskedLemmas.{one_has}
use Rattle.server_index.proofs.asked.search_expr.Goals as goal

pub search_word-requires-clause-needed : goal.search_word-requires-clause-needed
search_word-requires-clause-needed c = λ f meets.
    let is : c.as_slice-keys.result.now ≡ map key_of (needs (query c.args.expr.now)) = search rules in
    ap (list_all (has_key f)) is ∙ c.needs_keys.ensures key_of (query c.args.expr.now) _ meets

pub search_word-requires-clause-driven : goal.search_word-requires-clause-driven
search_word-requires-clause-driven c = λ f meets.
    let is : c.as_slice-keys.result.now ≡ map key_of (needs (query c.args.expr.now)) = search rules in
    one_has (has_key f) c.as_slice-keys.result.now c.rarest.result c.rarest.ensures.there (ap (list_all (has_key f)) is ∙ c.needs_keys.ensures key_of (query c.args.expr.now) _ meets)

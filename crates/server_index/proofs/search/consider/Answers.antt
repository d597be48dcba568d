use Rattle.search_expr.specs.Query.{query}
use Rattle.server_index.specs.Asked.{asks}
use Rattle.std.proofs.Common.{sym, ◌∙◌}
use Rattle.std.proofs.lemmas.Bool.{and_from}
use Rattle.server_index.proofs.FoundLemmas.{found_more}
use Rattle.server_index.proofs.search.consider.Goals as goal

pub returns-in_ok-push-clause-ok : goal.returns-in_ok-push-clause-ok
returns-in_ok-push-clause-ok c = λ hits. rw (c.in_ok-push.ensures.items, c.in_ok-tell.ensures) (found_more (asks (query c.args.expr.now)) c.args.after.now c.args.last.now c.args.out.now.items (c.args.spot.now, c.args.file.now) hits c.requires.room
    (and_from _ _ (sym c.is_above.ensures ∙ c.if-is_above.true) (sym c.matches.ensures ∙ c.if-matches.true)) (sym c.is_hash.ensures ∙ c.if-not-is_hash.true))

use Rattle.search_expr.specs.Query.{query}
use Rattle.server_index.specs.Asked.{asks}
use Rattle.std.proofs.Common.{◌≡◌, ◌≤◌, length}
use Rattle.std.specs.Prelude.{filter}
use Rattle.server_index.specs.Found as found
use Rattle.server_index.proofs.Joined.{joined}
use Rattle.server_index.proofs.search.search_word.Given as goal

abbrev pub invariant-loop-posting : goal.invariant-loop-posting
invariant-loop-posting l =
    (goal.iterator-loop-posting).can_next l.posting-iterator ×
    (goal.iterator-loop-posting).is_finite l.posting-iterator ×
    (length l.out.items ≤ 200) ×
    (found.goes_on l.out.items l.last (filter (found.is_hit (asks (query l.expr)) l.after) (joined l.key l.files.live.entries l.posting-iterator)) ≡ found.found (asks (query l.expr)) l.after l.files.live.entries)

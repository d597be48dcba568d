use Rattle.search_expr.specs.Query.{query}
use Rattle.server_index.specs.Asked.{asks}
use Rattle.std.proofs.Common.{◌≡◌, ◌≤◌, length}
use Rattle.std.specs.Prelude.{filter}
use Rattle.server_index.specs.Found as found
use Rattle.server_index.proofs.search.search_all.Given as goal

abbrev pub invariant-loop-spot : goal.invariant-loop-spot
invariant-loop-spot l =
    (goal.iterator-loop-spot).can_next l.spot-iterator ×
    (goal.iterator-loop-spot).is_finite l.spot-iterator ×
    (length l.out.items ≤ 200) ×
    (found.goes_on l.out.items l.last (filter (found.is_hit (asks (query l.expr)) l.after) l.spot-iterator) ≡ found.found (asks (query l.expr)) l.after l.files.live.entries)

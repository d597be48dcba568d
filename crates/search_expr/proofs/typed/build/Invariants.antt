use Rattle.std.proofs.Common.{length, ◌-◌, ◌≡◌, ◌≤◌}
use Rattle.search_expr.specs.Query.{query}
use Rattle.search_expr.specs.Typed.{built, whole, pieces_from}
use Rattle.search_expr.proofs.typed.build.Given as goal

abbrev pub invariant-loop-start : goal.invariant-loop-start
invariant-loop-start l = (built l.join (query l.expr) (pieces_from l.at l.text) ≡ whole (pieces_from 0 l.text)) × (l.at ≤ length l.text)

abbrev pub decreases-loop-start : goal.decreases-loop-start
decreases-loop-start l = length l.text - l.at

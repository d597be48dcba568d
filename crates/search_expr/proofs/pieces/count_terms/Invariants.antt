use Rattle.std.proofs.Common.{length, ◌+◌, ◌-◌, ◌≡◌, ◌≤◌}
use Rattle.search_expr.specs.Typed.{terms, pieces_from}
use Rattle.search_expr.proofs.pieces.count_terms.Given as goal

abbrev pub invariant-loop-start : goal.invariant-loop-start
invariant-loop-start l = (l.count + terms (pieces_from l.at l.text) ≡ terms (pieces_from 0 l.text)) × (l.count ≤ l.at) × (l.at ≤ length l.text)

abbrev pub decreases-loop-start : goal.decreases-loop-start
decreases-loop-start l = length l.text - l.at

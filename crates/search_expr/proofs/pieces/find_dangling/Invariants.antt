use Rattle.std.proofs.Common.{length, ◌-◌, ◌≡◌, ◌≤◌, false}
use Rattle.search_expr.specs.Typed.{dangling, pieces_from}
use Rattle.search_expr.proofs.pieces.find_dangling.Given as goal

abbrev pub invariant-loop-start : goal.invariant-loop-start
invariant-loop-start l = (dangling l.before (pieces_from l.at l.text) ≡ dangling false (pieces_from 0 l.text)) × (l.at ≤ length l.text)

abbrev pub decreases-loop-start : goal.decreases-loop-start
decreases-loop-start l = length l.text - l.at

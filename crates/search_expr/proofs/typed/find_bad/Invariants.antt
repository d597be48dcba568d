use Rattle.std.proofs.Common.{length, ◌-◌, ◌≡◌, ◌≤◌}
use Rattle.search_expr.specs.Typed.{bad_number, pieces_from}
use Rattle.search_expr.proofs.typed.find_bad.Given as goal

abbrev pub invariant-loop-start : goal.invariant-loop-start
invariant-loop-start l = (bad_number (pieces_from l.at l.text) ≡ bad_number (pieces_from 0 l.text)) × (l.at ≤ length l.text)

abbrev pub decreases-loop-start : goal.decreases-loop-start
decreases-loop-start l = length l.text - l.at

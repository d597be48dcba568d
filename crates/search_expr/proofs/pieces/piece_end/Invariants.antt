use Rattle.std.proofs.Common.{length, ◌-◌, ◌≡◌, ◌≤◌, ◌<◌, drop}
use Rattle.std.specs.List.{slice_range}
use Rattle.search_expr.specs.Typed.{cut, pieces_from}
use Rattle.search_expr.proofs.pieces.piece_end.Given as goal

abbrev pub invariant-loop-end : goal.invariant-loop-end
invariant-loop-end l = (cut l.end (slice_range l.text l.at l.end) (drop l.end l.text) ≡ pieces_from l.at l.text) × (l.at < l.end) × (l.end ≤ length l.text)

abbrev pub decreases-loop-end : goal.decreases-loop-end
decreases-loop-end l = length l.text - l.end

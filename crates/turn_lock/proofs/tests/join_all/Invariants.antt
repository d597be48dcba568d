use Rattle.std.proofs.Common.{◌≡◌, All, vec_len}
use Rattle.turn_lock.specs.Views.{IsFree}
use Rattle.turn_lock.proofs.tests.join_all.Given as goal

abbrev pub invariant-loop-other : goal.invariant-loop-other
invariant-loop-other l = (l.first.seat.table_id ≡ l.lock.board.shared.table_id) × IsFree l.first.seat × All (λ p. (p.seat.table_id ≡ l.lock.board.shared.table_id) × IsFree p.seat) l.passes.items

abbrev pub decreases-loop-other : goal.decreases-loop-other
decreases-loop-other l = vec_len l.passes

use Rattle.std.proofs.Common.{◌≡◌, All}
use Rattle.turn_lock.specs.Views.{IsFree}
use Rattle.ed2k_bench.proofs.turns.split_often.Given as goal

abbrev pub invariant-loop : goal.invariant-loop
invariant-loop g l = (l.first.seat.table_id ≡ l.lock.board.shared.table_id) × IsFree l.first.seat × All (λ p. (p.seat.table_id ≡ l.lock.board.shared.table_id) × IsFree p.seat) l.passes.items

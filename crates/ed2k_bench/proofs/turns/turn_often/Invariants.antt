use Rattle.std.proofs.Common.{◌≡◌}
use Rattle.turn_lock.specs.Views.{IsFree}
use Rattle.ed2k_bench.proofs.turns.turn_often.Given as goal

abbrev pub invariant-loop : goal.invariant-loop
invariant-loop g l = (l.pass.seat.table_id ≡ l.lock.board.shared.table_id) × IsFree l.pass.seat

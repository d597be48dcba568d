use Rattle.std.proofs.Common.{sym, subst}
use Rattle.reserve_core.specs.Desk.{own}
use Rattle.reserve_core.specs.Events.{events}
use Rattle.shared_file.proofs.Turns.{free_rest, joined_row, row_kept, start_kept}
use Rattle.shared_file.specs.Peers.{HasRow}
use Rattle.turn_lock.specs.Views.{owned_of}
use Rattle.shared_file.proofs.shared_file.SharedFile.join.Goals as goal

pub invariant_of-peer : goal.invariant_of-peer
invariant_of-peer g c =
    let old = c.args.peer.now.pass in
    let new = c.join.new.pass in
    record {
      rests = free_rest new.seat c.join.ensures.free;
      kept = subst (λ n. HasRow new.seat n) (sym c.join.ensures.same.1) (row_kept old.seat new.seat old.number (joined_row (owned_of old.seat) (owned_of c.args.other.pass.seat) (owned_of new.seat) old.number old.numbered c.join.ensures.rows) c.join.ensures.log.0 c.args.peer.now.kept);
      started = start_kept (λ c n. own (events c.file.log) n) old.seat new.seat c.join.ensures.same.0.2 c.join.ensures.log.0 c.args.peer.now.started;
    }

use Rattle.std.proofs.Common.{ap, sym, subst, ◌∙◌}
use Rattle.reserve_core.specs.Desk.{own}
use Rattle.reserve_core.specs.Events.{events}
use Rattle.shared_file.proofs.Turns.{free_rest, rest_free, row_kept, start_kept}
use Rattle.shared_file.specs.Peers.{HasRow}
use Rattle.turn_lock.specs.Views.{first_row}
use Rattle.shared_file.proofs.shared_file.SharedFile.progress.Goals as goal

pub invariant_of-peer : goal.invariant_of-peer
invariant_of-peer g c =
    let old = c.args.peer.now.pass in
    let new = c.count.new.pass in
    let only = c.count.ensures.same.0.1 in
    let free = rest_free old.seat c.args.peer.now.rests in
    record {
      rests = free_rest new.seat (ap (λ m. m.0.stage) only ∙ free.0, ap (λ m. m.1) only ∙ free.1);
      kept = subst (λ n. HasRow new.seat n) (sym c.count.ensures.same.1) (row_kept old.seat new.seat old.number (ap (λ m. first_row m.0.owned) only) c.count.ensures.log c.args.peer.now.kept);
      started = start_kept (λ c n. own (events c.file.log) n) old.seat new.seat (ap (λ m. m.0.start) only) c.count.ensures.log c.args.peer.now.started;
    }

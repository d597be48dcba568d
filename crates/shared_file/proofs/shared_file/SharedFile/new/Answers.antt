use Rattle.std.proofs.Common.{refl}
use Rattle.reserve_core.specs.Desk.{own}
use Rattle.reserve_core.specs.Events.{events}
use Rattle.shared_file.proofs.Turns.{free_rest, new_keeps, new_starts}
use Rattle.shared_file.proofs.shared_file.SharedFile.new.Goals as goal

pub invariant_of-result : goal.invariant_of-result
invariant_of-result g c =
    let pass = c.in-Ok.pass in
    let file = c.args.file in
    record {
      rests = free_rest pass.seat c.in-Ok.ensures.free;
      kept = new_keeps pass.number pass.seat file.log file.broken c.in-Ok.ensures.log c.in-Ok.ensures.rows c.in-Ok.ensures.number;
      started = new_starts (λ c n. own (events c.file.log) n) pass.seat _ file.log file.broken c.in-Ok.ensures.log c.in-Ok.ensures.birth.1 (λ n. refl);
    }

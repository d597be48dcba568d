use Rattle.std.proofs.Common.{rules}
use Rattle.turn_lock.proofs.Keeps.{calls_next_ticket}
use Rattle.turn_lock.proofs.turn.Turn.call_next.Goals as goal

pub fetch_add-called-requires : goal.fetch_add-called-requires
fetch_add-called-requires g c = (c.requires.own, search rules, calls_next_ticket _ _ _ _ _ _ _ _ c.requires.calls.1)

use Rattle.std.proofs.Common.{rules}
use Rattle.turn_lock.proofs.Keeps.{rings_bell}
use Rattle.turn_lock.proofs.turn.Turn.ring.Goals as goal

pub fetch_add-requires : goal.fetch_add-requires
fetch_add-requires g c = (search rules, search rules, rings_bell _ _ _ _ _ _ _ _ _ c.bell_of-bell.ensures.bell)

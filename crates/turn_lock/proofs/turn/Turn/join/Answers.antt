use Rattle.std.proofs.Common.{rules}
use Rattle.turn_lock.proofs.Keeps.{looks_at_count, joins_passes}
use Rattle.turn_lock.proofs.turn.Turn.join.Goals as goal

pub join_seat-requires : goal.join_seat-requires
join_seat-requires g c = (c.requires.own.0, c.requires.own.1, c.requires.free.1.1, search rules, joins_passes _ _ _ _ _ _ _ _ c.requires.free.1.0)

pub load-requires : goal.load-requires
load-requires g c = (search rules, search rules, looks_at_count _ _ _ _ _ _ _)

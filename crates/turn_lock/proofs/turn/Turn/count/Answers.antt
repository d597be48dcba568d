use Rattle.std.proofs.Common.{rules}
use Rattle.turn_lock.proofs.Keeps.{looks_at_count}
use Rattle.turn_lock.proofs.turn.Turn.count.Goals as goal

pub load-requires : goal.load-requires
load-requires g c = (c.requires.own, search rules, looks_at_count _ _ _ _ _ _ _)

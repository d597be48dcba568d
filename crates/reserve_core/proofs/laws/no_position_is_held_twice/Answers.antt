use Rattle.reserve_core.proofs.OneHolder.{held_once}
use Rattle.reserve_core.proofs.laws.no_position_is_held_twice.Goals as goal

pub returns : goal.returns
returns c = held_once

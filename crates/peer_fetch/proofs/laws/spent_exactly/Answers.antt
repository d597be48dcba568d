use Rattle.peer_fetch.proofs.Within.{spent_exactly}
use Rattle.peer_fetch.proofs.laws.spent_exactly.Goals as goal

pub returns : goal.returns
returns c = spent_exactly

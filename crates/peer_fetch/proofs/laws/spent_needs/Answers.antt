use Rattle.peer_fetch.proofs.Within.{spent_needs}
use Rattle.peer_fetch.proofs.laws.spent_needs.Goals as goal

pub returns : goal.returns
returns c = spent_needs

use Rattle.peer_fetch.proofs.Fetches.{talks_join}
use Rattle.peer_fetch.proofs.laws.talks_join.Goals as goal

pub returns : goal.returns
returns c = talks_join

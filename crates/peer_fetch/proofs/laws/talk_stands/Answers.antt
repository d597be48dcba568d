use Rattle.peer_fetch.proofs.Fetches.{talk_stands}
use Rattle.peer_fetch.proofs.laws.talk_stands.Goals as goal

pub returns : goal.returns
returns c = talk_stands

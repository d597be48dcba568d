use Rattle.peer_fetch.proofs.ServingWalk.{served_is_whole}
use Rattle.peer_fetch.proofs.serving.a_served_file_is_whole.Goals as goal

pub returns : goal.returns
returns c = served_is_whole

use Rattle.client_msgs.proofs.Again.{again}
use Rattle.client_msgs.proofs.laws.written_is_read.Goals as goal

pub returns : goal.returns
returns c = again

use Rattle.server_msgs.proofs.Again.{answer_again}
use Rattle.server_msgs.proofs.laws.answer_is_read.Goals as goal

pub returns : goal.returns
returns c = answer_again

use Rattle.server_msgs.proofs.Again.{request_again}
use Rattle.server_msgs.proofs.laws.request_is_read.Goals as goal

pub returns : goal.returns
returns c = request_again c.spelled_is_read.ensures c.written_is_spelled.ensures

use Rattle.framed_wire.proofs.Calls.{calls_go_on}
use Rattle.framed_wire.proofs.laws.calls_go_on.Goals as goal

pub returns : goal.returns
returns c = calls_go_on

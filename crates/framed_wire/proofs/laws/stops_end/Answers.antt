use Rattle.framed_wire.proofs.Streams.{stops_end}
use Rattle.framed_wire.proofs.laws.stops_end.Goals as goal

pub returns : goal.returns
returns c = stops_end

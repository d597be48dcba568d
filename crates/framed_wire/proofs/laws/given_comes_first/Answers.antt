use Rattle.framed_wire.proofs.Streams.{given_comes_first}
use Rattle.framed_wire.proofs.laws.given_comes_first.Goals as goal

pub returns : goal.returns
returns c = given_comes_first

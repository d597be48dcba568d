use Rattle.ed2k_frame.proofs.StreamLaws.{given_first}
use Rattle.ed2k_frame.proofs.laws.given_comes_first.Goals as goal

pub returns : goal.returns
returns c = given_first

use Rattle.ed2k_frame.proofs.StreamLaws.{one_reading}
use Rattle.ed2k_frame.proofs.laws.parts_are_one.Goals as goal

pub returns : goal.returns
returns c = one_reading

use Rattle.ed2k_frame.proofs.StreamLaws.{parts_there}
use Rattle.ed2k_frame.proofs.laws.each_stream_has_parts.Goals as goal

pub returns : goal.returns
returns c = parts_there

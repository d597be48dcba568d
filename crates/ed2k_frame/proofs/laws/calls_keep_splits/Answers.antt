use Rattle.ed2k_frame.proofs.StreamLaws.{keep_splits}
use Rattle.ed2k_frame.proofs.laws.calls_keep_splits.Goals as goal

pub returns : goal.returns
returns c = keep_splits

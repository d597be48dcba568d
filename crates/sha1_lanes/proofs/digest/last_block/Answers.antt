use Rattle.std.proofs.Common.{refl}
use Rattle.sha1_lanes.proofs.digest.last_block.Goals as goal

pub returns : goal.returns
returns c = rw (c.to_be_bytes.ensures, c.requires) refl

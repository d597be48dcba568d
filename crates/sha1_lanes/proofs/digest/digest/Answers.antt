use Rattle.std.proofs.Common.{rules}
use Rattle.sha1.specs.Sha1.{digest_bytes}
use Rattle.sha1_lanes.proofs.digest.digest.Goals as goal

pub returns : goal.returns
unfolding digest_bytes
returns c = search rules

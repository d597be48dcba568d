use Rattle.md4_lanes.proofs.LaneLemmas.{chooses}
use Rattle.md4_lanes.proofs.block.choice.Goals as goal

pub returns : goal.returns
returns c = chooses c.args.x c.args.y c.args.z c.fits-x.0 c.fits-y.0 c.fits-z.0

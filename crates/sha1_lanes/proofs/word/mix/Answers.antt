use Rattle.sha1_lanes.proofs.LaneLemmas.{mixes}
use Rattle.sha1_lanes.proofs.word.mix.Goals as goal

pub returns : goal.returns
returns c = mixes c.args.x c.args.y c.args.z c.args.u c.fits-x.0 c.fits-y.0 c.fits-z.0 c.fits-u.0

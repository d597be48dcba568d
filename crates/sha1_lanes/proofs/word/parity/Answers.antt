use Rattle.sha1_lanes.proofs.LaneLemmas.{parities}
use Rattle.sha1_lanes.proofs.word.parity.Goals as goal

pub returns : goal.returns
returns c = parities c.args.x c.args.y c.args.z c.fits-x.0 c.fits-y.0 c.fits-z.0

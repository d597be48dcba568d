use Rattle.sha1_lanes.proofs.LaneLemmas.{majorities}
use Rattle.sha1_lanes.proofs.word.maj.Goals as goal

pub returns : goal.returns
returns c = majorities c.args.x c.args.y c.args.z c.fits-x.0 c.fits-y.0 c.fits-z.0

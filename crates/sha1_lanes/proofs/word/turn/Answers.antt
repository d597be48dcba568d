use Rattle.sha1_lanes.proofs.LaneLemmas.{shifts_turn}
use Rattle.sha1_lanes.proofs.word.turn.Goals as goal

pub returns : goal.returns
returns c = shifts_turn c.args.k c.requires.0 c.requires.1 c.args.x c.fits-x.0

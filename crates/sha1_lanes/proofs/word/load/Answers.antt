use Rattle.sha1_lanes.proofs.LaneLemmas.{below_four}
use Rattle.sha1_lanes.proofs.word.load.Goals as goal

pub returns : goal.returns
returns c = below_four _ c.load_be.ensures c.load_be-2.ensures c.load_be-3.ensures c.load_be-4.ensures

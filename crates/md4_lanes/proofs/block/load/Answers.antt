use Rattle.sha1_lanes.proofs.LaneLemmas.{below_four}
use Rattle.md4_lanes.proofs.block.load.Goals as goal

pub returns : goal.returns
returns c = below_four _ c.load_le.ensures c.load_le-2.ensures c.load_le-3.ensures c.load_le-4.ensures

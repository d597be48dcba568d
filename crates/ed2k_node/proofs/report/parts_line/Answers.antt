use Rattle.std.proofs.Common.{append_assoc}
use Rattle.ed2k_node.specs.Report.{parts_line}
use Rattle.ed2k_node.proofs.report.parts_line.Goals as goal

pub returns : goal.returns
unfolding parts_line
returns c = simp append_assoc (rw (← c.requires.counted, ← c.data_parts-all.ensures.value) c.format.ensures.ok)

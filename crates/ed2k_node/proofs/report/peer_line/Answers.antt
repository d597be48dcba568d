use Rattle.std.proofs.Common.{append_assoc}
use Rattle.ed2k_node.specs.Report.{peer_line}
use Rattle.ed2k_node.proofs.report.peer_line.Goals as goal

pub returns : goal.returns
unfolding peer_line
returns c = simp append_assoc (rw (← c.cause_name-cause.ensures, ← c.bytes_from-bytes.ensures) c.format.ensures.ok)

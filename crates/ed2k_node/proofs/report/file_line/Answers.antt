use Rattle.std.proofs.Common.{rules}
use Rattle.ed2k_node.specs.Report.{file_line}
use Rattle.ed2k_node.proofs.report.file_line.Goals as goal

pub returns : goal.returns
unfolding file_line
returns c = search rules

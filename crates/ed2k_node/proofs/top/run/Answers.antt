use Rattle.ed2k_node.proofs.Wanted.{if_none}
use Rattle.ed2k_node.proofs.top.run.Goals as goal

pub returns-else-is_get-clause-get : goal.returns-else-is_get-clause-get
returns-else-is_get-clause-get g c = if_none _ _ c.is_get.result c.is_get.ensures c.if-is_get.false

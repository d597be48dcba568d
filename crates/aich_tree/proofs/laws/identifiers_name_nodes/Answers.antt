use Rattle.aich_tree.proofs.IdentLemmas.{node_range-child, node_range-none, node_range-root}
use Rattle.aich_tree.proofs.laws.identifiers_name_nodes.Goals as goal

pub returns-clause-zero : goal.returns-clause-zero
returns-clause-zero c = node_range-none

pub returns-clause-root : goal.returns-clause-root
returns-clause-root c = node_range-root

pub returns-clause-children : goal.returns-clause-children
returns-clause-children c = node_range-child

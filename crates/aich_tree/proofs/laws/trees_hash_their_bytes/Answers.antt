use Rattle.aich_tree.proofs.TreeLemmas.{tree-leaf, tree-branch}
use Rattle.aich_tree.proofs.laws.trees_hash_their_bytes.Goals as goal

pub returns-clause-leaves : goal.returns-clause-leaves
returns-clause-leaves c = tree-leaf

pub returns-clause-branches : goal.returns-clause-branches
returns-clause-branches c = tree-branch

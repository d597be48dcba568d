-- The root that hashes of a part's path give.
use Rattle.std.specs.Prelude.{ℕ, zero, suc, ◌*◌, List, ◌++◌, nat_le, nat_lt, if◌then◌else◌}
use Rattle.sha1.specs.Sha1.{sha1}
use Rattle.part_sizes.specs.declared.part.TheConstants.{PART}
use Rattle.aich_tree.specs.Tree.{is_leaf}
use Rattle.aich_packet.specs.declared.node.Node.{Node}
use Rattle.aich_packet.specs.declared.way.TheConstants.{PART_LEVELS, BLOCK_LEVELS}
use Rattle.aich_packet.specs.Way.{root_of, size_of, middle, left_child, right_child}

-- the hash of a node of a part from the hashes of the part's leaves
unfoldable pub fold_leaves : ℕ → (ℕ → List ℕ) → Node → List ℕ
fold_leaves zero hash node = hash node.ident
fold_leaves (suc levels) hash node =
    if is_leaf (size_of node) then hash node.ident
    else sha1 (fold_leaves levels hash (left_child node) ++ fold_leaves levels hash (right_child node))

-- the hash of a node on the way to a part, from those of the part's leaves and of the siblings
unfoldable pub fold_way : ℕ → (ℕ → List ℕ) → Node → ℕ → List ℕ
fold_way zero hash node at = fold_leaves BLOCK_LEVELS hash node
fold_way (suc levels) hash node at =
    if nat_le (size_of node) PART then fold_leaves BLOCK_LEVELS hash node
    else if nat_lt at (middle node)
    then sha1 (fold_way levels hash (left_child node) at ++ hash (right_child node).ident)
    else sha1 (hash (left_child node).ident ++ fold_way levels hash (right_child node) at)

-- the root: each node on the part's path has the hash that it is given, and each other node on the way
-- down to them the SHA-1 of its children's hashes put together
abbrev pub folds : ℕ → ℕ → (ℕ → List ℕ) → List ℕ
folds size part hash = fold_way PART_LEVELS hash (root_of size) (part * PART)

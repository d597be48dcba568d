-- The way from the root of a tree down to a part, by identifiers.
use Rattle.std.specs.Prelude.{ℕ, zero, suc, ◌+◌, ◌-◌, ◌*◌, List, [], ◌∷◌, ◌++◌, nat_le, nat_lt, if◌then◌else◌}
use Rattle.part_sizes.specs.declared.part.TheConstants.{PART}
use Rattle.aich_tree.specs.Ident.{is_left}
use Rattle.aich_tree.specs.Tree.{is_leaf, left_bytes}
use Rattle.aich_packet.specs.declared.node.Node.{Node}
use Rattle.aich_packet.specs.declared.way.TheConstants.{PART_LEVELS, BLOCK_LEVELS}

-- the root of the tree over a file of this size
abbrev pub root_of : ℕ → Node
root_of size = record { ident = 1; span = record { s = 0; e = size } }

-- the bytes below a node
abbrev pub size_of : Node → ℕ
size_of node = node.span.e - node.span.s

-- where a node's left child ends and its right child begins
abbrev pub middle : Node → ℕ
middle node = node.span.s + left_bytes (size_of node) (is_left node.ident)

abbrev pub left_child : Node → Node
left_child node = record { ident = 2 * node.ident + 1; span = record { s = node.span.s; e = middle node } }

abbrev pub right_child : Node → Node
right_child node = record { ident = 2 * node.ident; span = record { s = middle node; e = node.span.e } }

-- the leaves below a node, from left to right, in a tree of at most so many levels below it
unfoldable pub leaf_idents : ℕ → Node → List ℕ
leaf_idents zero node = node.ident ∷ []
leaf_idents (suc levels) node =
    if is_leaf (size_of node) then node.ident ∷ []
    else leaf_idents levels (left_child node) ++ leaf_idents levels (right_child node)

-- The node that a part is, on the way from a node down to a position: where a node has several parts, the
-- way goes to the child that has the position. There are at most so many levels of such nodes.
unfoldable pub part_node : ℕ → Node → ℕ → Node
part_node zero node at = node
part_node (suc levels) node at =
    if nat_le (size_of node) PART then node
    else if nat_lt at (middle node) then part_node levels (left_child node) at
    else part_node levels (right_child node) at

-- the siblings of the nodes on that way, from its head down
unfoldable pub siblings : ℕ → Node → ℕ → List ℕ
siblings zero node at = []
siblings (suc levels) node at =
    if nat_le (size_of node) PART then []
    else if nat_lt at (middle node) then (right_child node).ident ∷ siblings levels (left_child node) at
    else (left_child node).ident ∷ siblings levels (right_child node) at

-- the leaves of a part, from left to right
abbrev pub leaves_on : ℕ → ℕ → List ℕ
leaves_on size part = leaf_idents BLOCK_LEVELS (part_node PART_LEVELS (root_of size) (part * PART))

-- the siblings on the way from the root down to the part, and then the part's leaves from left to right
abbrev pub path : ℕ → ℕ → List ℕ
path size part = siblings PART_LEVELS (root_of size) (part * PART) ++ leaves_on size part

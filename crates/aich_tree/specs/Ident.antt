-- The nodes of a tree by their identifiers: the root's is 1, the left child's of i is 2i + 1 and the
-- right child's 2i.
use Rattle.std.specs.Prelude.{ℕ, zero, suc, ◌+◌, ◌-◌, ◌/◌, ◌%◌, ◌==◌, List, length, take, drop, Bool, Option, Some, None, option_and_then, option_map, if◌then◌else◌}
use Rattle.part_sizes.specs.declared.span.Span.{Span}
use Rattle.aich_tree.specs.Tree.{tree, is_leaf, left_bytes}

-- whether a node is a left branch, as the root is
abbrev pub is_left : ℕ → Bool
is_left ident = ident % 2 == 1

-- the positions of a node, within those of its parent
abbrev pub child_range : ℕ → Span → Option Span
child_range ident parent =
    if is_leaf (parent.e - parent.s) then None
    else
    let middle = parent.s + left_bytes (parent.e - parent.s) (is_left (ident / 2)) in
    if is_left ident then Some (record { s = parent.s; e = middle })
    else Some (record { s = middle; e = parent.e })

-- the same from the root down, in at most so many steps
unfoldable pub range_within : ℕ → ℕ → ℕ → Option Span
range_within zero size ident = None
range_within (suc steps) size ident =
    if ident == 1 then Some (record { s = 0; e = size })
    else option_and_then (child_range ident) (range_within steps size (ident / 2))

-- The positions of the node with an identifier in the tree over a size, where there is one. The way
-- from the root has fewer steps than the identifier says.
unfoldable pub node_range : ℕ → ℕ → Option Span
node_range size ident = range_within ident size ident

-- the bytes at a node's positions
abbrev pub bytes_at : List ℕ → Span → List ℕ
bytes_at bytes span = take (span.e - span.s) (drop span.s bytes)

-- the hash of the node with an identifier, where there is one
abbrev pub node : List ℕ → ℕ → Option (List ℕ)
node bytes ident = option_map (λ span. tree (bytes_at bytes span) (is_left ident)) (node_range (length bytes) ident)

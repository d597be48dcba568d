-- Which nodes the identifiers name.
use Rattle.std.specs.Prelude.{◌≡◌, ℕ, ◌/◌, ◌<◌, Some, None, option_and_then}
use Rattle.aich_tree.specs.Ident.{child_range, node_range}

-- 0 is no identifier
abbrev pub NoneIsZero : Type 0
NoneIsZero = (size : ℕ) → node_range size 0 ≡ None

-- the root has identifier 1, and all positions
abbrev pub RootIsOne : Type 0
RootIsOne = (size : ℕ) → node_range size 1 ≡ Some (record { s = 0; e = size })

-- any other node is a child of the one with half of its identifier
abbrev pub ChildrenDouble : Type 0
ChildrenDouble = (size ident : ℕ) → 1 < ident
    → node_range size ident ≡ option_and_then (child_range ident) (node_range size (ident / 2))

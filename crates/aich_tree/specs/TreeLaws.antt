-- What a node's hash is made of.
use Rattle.std.specs.Prelude.{◌≡◌, ℕ, ◌<◌, ◌≤◌, List, ◌++◌, length, take, drop, Bool, true, false}
use Rattle.sha1.specs.Sha1.{sha1}
use Rattle.part_sizes.specs.declared.block.TheConstants.{BLOCK}
use Rattle.aich_tree.specs.Tree.{tree, left_bytes}

-- a leaf's hash is that of its bytes
abbrev pub LeavesHashBytes : Type 0
LeavesHashBytes = (bytes : List ℕ) (left : Bool) → length bytes ≤ BLOCK → tree bytes left ≡ sha1 bytes

-- any other node's is that of its children's hashes put together
abbrev pub BranchesHashChildren : Type 0
BranchesHashChildren = (bytes : List ℕ) (left : Bool) → BLOCK < length bytes
    → tree bytes left ≡ sha1 (tree (take (left_bytes (length bytes) left) bytes) true ++ tree (drop (left_bytes (length bytes) left) bytes) false)

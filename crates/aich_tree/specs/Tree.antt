-- The AICH hash tree of a file, over the file's bytes.
use Rattle.std.specs.Prelude.{ℕ, zero, suc, ◌+◌, ◌*◌, ◌/◌, nat_le, nat_lt, List, ◌++◌, length, take, drop, Bool, true, false, if◌then◌else◌}
use Rattle.std.specs.Int.{div_ceil}
use Rattle.sha1.specs.Sha1.{sha1}
use Rattle.part_sizes.specs.declared.part.TheConstants.{PART}
use Rattle.part_sizes.specs.declared.block.TheConstants.{BLOCK}

-- what a node over n bytes is divided into: parts where it has more than one, else blocks
abbrev pub unit : ℕ → ℕ
unit n = if nat_lt PART n then PART else BLOCK

-- a node over one block at most is a leaf
abbrev pub is_leaf : ℕ → Bool
is_leaf n = nat_le n BLOCK

-- the bytes of the left child of a node over n bytes: half of the node's units, and of an odd number
-- the greater half where the node is a left branch itself
abbrev pub left_bytes : ℕ → Bool → ℕ
left_bytes n left = (div_ceil n (unit n) + (if left then 1 else 0)) / 2 * unit n

-- the hash of a node, in a tree of at most so many levels below it
unfoldable pub tree_within : ℕ → List ℕ → Bool → List ℕ
tree_within zero bytes left = sha1 bytes
tree_within (suc levels) bytes left =
    if is_leaf (length bytes) then sha1 bytes
    else sha1 (tree_within levels (take (left_bytes (length bytes) left) bytes) true
    ++ tree_within levels (drop (left_bytes (length bytes) left) bytes) false)

-- The hash of a node over these bytes, as a left branch or not: the SHA-1 of a leaf's bytes, else of
-- its children's hashes put together. The root counts as a left branch. No tree has more levels
-- than bytes.
unfoldable pub tree : List ℕ → Bool → List ℕ
tree bytes left = tree_within (length bytes) bytes left

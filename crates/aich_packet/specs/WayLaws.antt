-- What makes the numbers of levels right.
use Rattle.std.specs.Prelude.{◌≡◌, ℕ, ◌*◌, ◌<◌, ◌≤◌, Some, length, map}
use Rattle.std.specs.List.{range_with_len}
use Rattle.part_sizes.specs.Block.{block_count, block_range}
use Rattle.part_sizes.specs.Part.{IsSize, data_parts, part_range}
use Rattle.part_sizes.specs.declared.part.TheConstants.{PART}
use Rattle.aich_tree.specs.Ident.{node_range}
use Rattle.aich_packet.specs.declared.way.TheConstants.{PART_LEVELS}
use Rattle.aich_packet.specs.Way.{root_of, part_node, leaves_on, path}

-- the way to a part ends at the node over the part's positions
abbrev pub WaysReachParts : Type 0
WaysReachParts = (size part : ℕ) → IsSize size → part < data_parts size
    → (part_node PART_LEVELS (root_of size) (part * PART)).span ≡ part_range size part

-- the leaves on a part's path are the nodes over the part's blocks, in order
abbrev pub LeavesAreBlocks : Type 0
LeavesAreBlocks = (size part : ℕ) → IsSize size → part < data_parts size
    → map (node_range size) (leaves_on size part) ≡ map (λ block. Some (block_range size part block)) (range_with_len 0 (block_count size part))

-- a path has at most 62 identifiers
abbrev pub PathsAreShort : Type 0
PathsAreShort = (size part : ℕ) → IsSize size → part < data_parts size → length (path size part) ≤ 62

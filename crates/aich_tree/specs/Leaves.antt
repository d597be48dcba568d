-- The leaves of a tree: the blocks of each part.
use Rattle.std.specs.Prelude.{ℕ, ◌+◌, ◌-◌, ◌*◌, ◌/◌, ◌%◌, min, List, length, take, drop, map}
use Rattle.std.specs.Int.{div_ceil}
use Rattle.std.specs.List.{range_with_len}
use Rattle.sha1.specs.Sha1.{sha1}
use Rattle.part_sizes.specs.Part.{part}
use Rattle.part_sizes.specs.Block.{block_count}
use Rattle.part_sizes.specs.declared.part.TheConstants.{PART}
use Rattle.part_sizes.specs.declared.block.TheConstants.{BLOCK}

-- the hash of a block of a part
unfoldable pub leaf : List ℕ → ℕ → ℕ → List ℕ
leaf bytes i k = sha1 (take BLOCK (drop (k * BLOCK) (part bytes i)))

-- the hashes of a part's blocks
abbrev pub part_leaves : List ℕ → ℕ → List (List ℕ)
part_leaves bytes i = map (leaf bytes i) (range_with_len 0 (block_count (length bytes) i))

-- ---- all leaves in order, of which a whole part has 53

-- the leaves of so many bytes
abbrev pub leaf_count : ℕ → ℕ
leaf_count n = n / PART * 53 + div_ceil (n % PART) BLOCK

unfoldable pub leaves_of : List ℕ → List (List ℕ)
leaves_of bytes = map (λ j. leaf bytes (j / 53) (j % 53)) (range_with_len 0 (leaf_count (length bytes)))

-- ---- bytes that are taken in piece by piece

-- the blocks that have ended
abbrev pub ended_count : ℕ → ℕ
ended_count n = n / PART * 53 + n % PART / BLOCK

unfoldable pub ended_leaves : List ℕ → List (List ℕ)
ended_leaves bytes = map (λ j. leaf bytes (j / 53) (j % 53)) (range_with_len 0 (ended_count (length bytes)))

-- the bytes of the block that is open
unfoldable pub open_block : List ℕ → List ℕ
open_block bytes = drop (length bytes / PART * PART + length bytes % PART / BLOCK * BLOCK) bytes

-- the bytes that are missing there, up to the end of the block or of the part
abbrev pub room_behind : ℕ → ℕ
room_behind n = min (BLOCK - n % PART % BLOCK) (PART - n % PART)

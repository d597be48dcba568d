-- The blocks of a part, counted from 0 in each part.
use Rattle.std.specs.Prelude.{ℕ, ◌+◌, ◌-◌, ◌*◌, ◌/◌, ◌%◌, min}
use Rattle.std.specs.Int.{div_ceil}
use Rattle.part_sizes.specs.declared.span.Span.{Span}
use Rattle.part_sizes.specs.declared.part.TheConstants.{PART}
use Rattle.part_sizes.specs.declared.block.TheConstants.{BLOCK}
use Rattle.part_sizes.specs.Part.{part_range}

-- the blocks of a part
abbrev pub block_count : ℕ → ℕ → ℕ
block_count size part = div_ceil ((part_range size part).e - (part_range size part).s) BLOCK

-- the positions of a block
abbrev pub block_range : ℕ → ℕ → ℕ → Span
block_range size part block = record {
  s = (part_range size part).s + block * BLOCK;
  e = min ((part_range size part).s + (block + 1) * BLOCK) (part_range size part).e;
}

-- the block of a position, in the part of that position
abbrev pub block_of : ℕ → ℕ
block_of x = x % PART / BLOCK

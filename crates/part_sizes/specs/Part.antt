-- The parts of a file, counted from 0, by the number of its bytes.
use Rattle.std.specs.Prelude.{ℕ, ◌+◌, ◌*◌, ◌/◌, ◌≤◌, min, nat_lt, if◌then◌else◌, List, take, drop}
use Rattle.std.specs.Int.{div_ceil}
use Rattle.part_sizes.specs.declared.span.Span.{Span}
use Rattle.part_sizes.specs.declared.part.TheConstants.{PART, SIZE_LIMIT}

-- a file has at least one byte and at most the limit
abbrev pub IsSize : ℕ → Type 0
IsSize size = (1 ≤ size) × (size ≤ SIZE_LIMIT)

-- the parts that hold bytes
abbrev pub data_parts : ℕ → ℕ
data_parts size = div_ceil size PART

-- the members of a hash set: none below one part, and one more than the whole parts from there on
abbrev pub hash_count : ℕ → ℕ
hash_count size = if nat_lt size PART then 0 else size / PART + 1

-- the parts that a status counts: one more than the whole parts
abbrev pub part_count : ℕ → ℕ
part_count size = size / PART + 1

-- the positions of a part
abbrev pub part_range : ℕ → ℕ → Span
part_range size part = record { s = part * PART; e = min ((part + 1) * PART) size }

-- the part of a position
abbrev pub part_of : ℕ → ℕ
part_of x = x / PART

-- the positions of the whole file
abbrev pub file_range : ℕ → Span
file_range size = record { s = 0; e = size }

-- the bytes of a part, which is empty past the end
abbrev pub part : List ℕ → ℕ → List ℕ
part bytes i = take PART (drop (i * PART) bytes)

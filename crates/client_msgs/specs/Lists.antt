-- The lists that messages carry, as the first items of the bytes that hold them.
use Rattle.std.specs.Prelude.{ℕ, zero, suc, ◌+◌, ◌*◌, ◌/◌, ◌%◌, ◌^◌, List, [], ◌∷◌, ◌++◌, Bool, ◌==◌, ◌&&◌, take, drop, slice_index, if◌then◌else◌}
use Rattle.part_sizes.specs.declared.span.Span.{Span}

-- the first hashes, of 16 bytes each
abbrev pub hashes_of : ℕ → List ℕ → List (List ℕ)
hashes_of zero bytes = []
hashes_of (suc n) bytes = hashes_of n bytes ++ take 16 (drop (16 * n) bytes) ∷ []

-- the bit at a place: of each byte the lowest first
abbrev pub bit_at : List ℕ → ℕ → Bool
bit_at bitmap place = slice_index bitmap (place / 8) / 2 ^ (place % 8) % 2 == 1

-- the first bits
abbrev pub bits_of : ℕ → List ℕ → List Bool
bits_of zero bitmap = []
bits_of (suc n) bitmap = bits_of n bitmap ++ bit_at bitmap n ∷ []

-- a range that is used: one other than 0 to 0
abbrev pub used : ℕ → ℕ → List Span
used start end = if start == 0 && end == 0 then [] else record { s = start; e = end } ∷ []

-- Bytes taken in piece by piece: the whole parts that they have so far, and the part behind them.
use Rattle.std.specs.Prelude.{◌≡◌, ℕ, ◌*◌, ◌/◌, ◌%◌, List, length, drop, map}
use Rattle.std.specs.List.{range_with_len}
use Rattle.md4_hash.specs.Md4.{md4}
use Rattle.part_sizes.specs.declared.part.TheConstants.{PART}
use Rattle.part_sizes.specs.Part.{part}

-- the hashes of the whole parts
unfoldable pub whole_hashes : List ℕ → List (List ℕ)
whole_hashes bytes = map (λ i. md4 (part bytes i)) (range_with_len 0 (length bytes / PART))

-- the bytes behind the whole parts
unfoldable pub open_part : List ℕ → List ℕ
open_part bytes = drop (length bytes / PART * PART) bytes

-- a hasher's fields hold these bytes
pub record HoldsParts (members : List (List ℕ)) (open_bytes : List ℕ) (filled : ℕ) (bytes : List ℕ) : Type 0 where
  pub whole : members ≡ whole_hashes bytes
  pub open_part_of : open_bytes ≡ open_part bytes
  pub filled_to : filled ≡ length bytes % PART

-- How recovery data is spelled: a count of two bytes and so many pairs. A pair is an identifier of two
-- bytes and a hash of twenty.
use Rattle.std.specs.Prelude.{ℕ, zero, suc, ◌+◌, ◌*◌, ◌==◌, List, [], ◌∷◌, ◌++◌, length, take, drop, Bool, Option, Some, None, nat_lt, ◌||◌, if◌then◌else◌}
use Rattle.std.specs.List.{flat_map}
use Rattle.byteorder.specs.Endian.{little_number, little_bytes}
use Rattle.aich_packet.specs.declared.layout.Pair.{Pair}

-- the spelling of pairs
abbrev pub spell_pair : Pair → List ℕ
spell_pair pair = little_bytes 2 pair.ident ++ pair.hash

abbrev pub spell : List Pair → List ℕ
spell pairs = little_bytes 2 (length pairs) ++ flat_map spell_pair pairs

-- ---- what bytes spell

abbrev pub count_of : List ℕ → ℕ
count_of bytes = little_number 2 bytes

-- the bytes end within the count or a pair, or one byte follows the pairs
abbrev pub is_cut : List ℕ → Bool
is_cut bytes = nat_lt (length bytes) 2 || (nat_lt (length bytes) (2 + count_of bytes * 22) || length bytes == 2 + count_of bytes * 22 + 1)

-- the number of pairs, where they are all there
abbrev pub pair_count : List ℕ → Option ℕ
pair_count bytes = if is_cut bytes then None else Some (count_of bytes)

-- the pair at the front of the bytes
abbrev pub pair_at : List ℕ → Pair
pair_at bytes = record { ident = little_number 2 bytes; hash = take 20 (drop 2 bytes) }

-- so many pairs, one after the other
unfoldable pub pairs_from : ℕ → List ℕ → List Pair
pairs_from zero bytes = []
pairs_from (suc count) bytes = pair_at bytes ∷ pairs_from count (drop 22 bytes)

-- the pairs behind the count
abbrev pub pairs_of : List ℕ → List Pair
pairs_of bytes = pairs_from (count_of bytes) (drop 2 bytes)

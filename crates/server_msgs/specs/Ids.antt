-- Ids and the addresses that high ones are.
use Rattle.std.specs.Prelude.{ℕ, Bool, List, Option, Some, None, nat_le, if◌then◌else◌}
use Rattle.byteorder.specs.Endian.{little_bytes, little_number}

-- no low id reaches 2^24
abbrev pub is_high : ℕ → Bool
is_high id = nat_le 16777216 id

-- a.b.c.d is a + 256 b + 65,536 c + 16,777,216 d
abbrev pub id_of : List ℕ → ℕ
id_of address = little_number 4 address

-- a low id is no address
abbrev pub address_of : ℕ → Option (List ℕ)
address_of id = if is_high id then Some (little_bytes 4 id) else None

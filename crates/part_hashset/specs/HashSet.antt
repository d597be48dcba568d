-- The hashes of a file's parts, and the file's hash over them.
use Rattle.std.specs.Prelude.{◌≡◌, ℕ, ◌-◌, ◌*◌, ◌<◌, ◌≤◌, ◌==◌, ◌%◌, ◌&&◌, nat_lt, if◌then◌else◌, List, [], length, take, drop, map, slice_index_or, Option, Some, None, not}
use Rattle.std.specs.List.{flat_map, range_with_len}
use Rattle.std.specs.Str.{bytes_eq}
use Rattle.md4_hash.specs.Md4.{md4}
use Rattle.part_sizes.specs.Part.{hash_count, part}
use Rattle.part_sizes.specs.declared.part.TheConstants.{PART}
use Rattle.part_hashset.specs.declared.check.SetFault.{SetFault}
use Rattle.part_hashset.specs.declared.check.SetFault.TheVariants.{Count, EmptyPart, Mismatch}

-- the hash of each part, with that of the empty part at the end of a whole multiple of parts
abbrev pub set_of : List ℕ → List (List ℕ)
set_of bytes = map (λ i. md4 (part bytes i)) (range_with_len 0 (hash_count (length bytes)))

-- the members put together
abbrev pub joined : List (List ℕ) → List ℕ
joined set = flat_map (λ member. member) set

-- the file's hash: that of its bytes below one part, else that of its part hashes put together
abbrev pub ed2k : List ℕ → List ℕ
ed2k bytes = if nat_lt (length bytes) PART then md4 bytes else md4 (joined (set_of bytes))

-- the last member, which is the empty part's at a whole multiple of parts
abbrev pub last_member : List (List ℕ) → List ℕ
last_member set = slice_index_or set (length set - 1) []

-- A valid hash set of a file of this size and hash. Below one part it is empty.
pub record IsWholeSet (size : ℕ) (hash : List ℕ) (set : List (List ℕ)) : Type 0 where
  pub count : length set ≡ hash_count size
  pub hashed : md4 (joined set) ≡ hash
  pub empty_part : size % PART ≡ 0 → last_member set ≡ md4 []

pub record ValidSet (size : ℕ) (hash : List ℕ) (set : List (List ℕ)) : Type 0 where
  pub below : size < PART → set ≡ []
  pub whole : PART ≤ size → IsWholeSet size hash set

-- the first thing that is wrong with a set
abbrev pub set_fault : ℕ → List ℕ → List (List ℕ) → Option SetFault
set_fault size hash set =
    if not (length set == hash_count size)
    then Some (Count (length set) (hash_count size))
    else if nat_lt size PART then None
    else if size % PART == 0 && not (bytes_eq (last_member set) (md4 []))
    then Some (EmptyPart (last_member set))
    else if bytes_eq (md4 (joined set)) hash then None
    else Some (Mismatch (md4 (joined set)))

-- What a valid hash set says of a file's bytes.
use Rattle.std.specs.Prelude.{◌≡◌, ℕ, ◌<◌, ◌≤◌, List, [], length, slice_index_or}
use Rattle.md4_hash.specs.Md4.{md4}
use Rattle.part_sizes.specs.Part.{part, data_parts}
use Rattle.part_sizes.specs.declared.part.TheConstants.{PART}
use Rattle.part_hashset.specs.HashSet.{set_of, ed2k, ValidSet}

-- bytes of at least one part whose own part hashes are valid have that hash
abbrev pub PartsGiveHash : Type 0
PartsGiveHash = (hash bytes : List ℕ) → PART ≤ length bytes → ValidSet (length bytes) hash (set_of bytes) → ed2k bytes ≡ hash

-- each part that exists has the hash that its member says
abbrev pub IsSetOfParts : List (List ℕ) → List ℕ → Type 0
IsSetOfParts set bytes = (i : ℕ) → i < data_parts (length bytes) → slice_index_or set i [] ≡ md4 (part bytes i)

-- bytes of at least one part, each of which has the hash of a valid set, have that set's hash
abbrev pub MembersGiveHash : Type 0
MembersGiveHash = (hash bytes : List ℕ) (set : List (List ℕ)) → PART ≤ length bytes → ValidSet (length bytes) hash set → IsSetOfParts set bytes → ed2k bytes ≡ hash

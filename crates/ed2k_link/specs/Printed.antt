-- The canonical form of a link.
use Rattle.std.specs.Prelude.{◌≡◌, ◌<◌, All, ℕ, List, [], ◌∷◌, ◌++◌, map, codes, Option, Some, None, MatchOption, ⊤}
use Rattle.std.specs.Fmt.{decimal}
use Rattle.std.specs.List.{join_with_byte}
use Rattle.hex.specs.Hex.{encode_upper}
use Rattle.ed2k_link.specs.Base32.{base32, Spells}
use Rattle.ed2k_link.specs.Fields.{hash_of}
use Rattle.ed2k_link.specs.Grammar.{head}
use Rattle.ed2k_link.specs.Name.{escaped}
use Rattle.ed2k_link.specs.declared.link.FileLink.{FileLink}

abbrev pub bar : List ℕ
bar = codes "|"

-- the part hashes, where there are any
abbrev pub parts_field : List (List ℕ) → List ℕ
parts_field [] = []
parts_field (hash ∷ hashes) = codes "p=" ++ join_with_byte 58 (map encode_upper (hash ∷ hashes)) ++ bar

-- the letters of the root hash spell it
abbrev pub IsWritten : Option (List ℕ) → Type 0
IsWritten root = MatchOption root ⊤ (λ bytes. Spells (base32 bytes) bytes)

-- the root hash, where there is one
abbrev pub root_field : Option (List ℕ) → List ℕ
root_field None = []
root_field (Some root) = codes "h=" ++ base32 root ++ bar

abbrev pub printed : FileLink → List ℕ
printed link = head ++ escaped link.name ++ bar ++ decimal link.size ++ bar ++ encode_upper link.hash ++ bar
    ++ parts_field link.parts ++ root_field link.root ++ codes "/"

-- each printed value is read as itself
pub record IsReadBack (link : FileLink) : Type 0 where
  pub name_bytes : All (λ byte. byte < 256) link.name
  pub hash_text : hash_of (encode_upper link.hash) ≡ Some link.hash
  pub part_texts : map hash_of (map encode_upper link.parts) ≡ map Some link.parts
  pub root_text : IsWritten link.root

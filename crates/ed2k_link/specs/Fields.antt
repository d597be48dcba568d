-- What stands behind the hash of a link: the part hashes `p=`, the root hash `h=` and the end.
use Rattle.std.specs.Prelude.{◌≡◌, ℕ, Bool, true, false, not, List, [], ◌∷◌, map, codes, Option, Some, None, is_some, MatchOption, IsTrue, if◌then◌else◌}
use Rattle.std.specs.List.{list_all, list_any, before_first}
use Rattle.std.specs.Result.{result_ok}
use Rattle.hex.specs.Hex.{decode_sized}
use Rattle.ed2k_link.specs.Base32.{is_base32, Spells}
use Rattle.ed2k_link.specs.Items.{split_at_colons, is_end, values}
use Rattle.ed2k_link.specs.declared.fault.LinkFault.{LinkFault}
use Rattle.ed2k_link.specs.declared.fault.LinkFault.TheVariants.{BadParts, BadRoot, BadEnd}
use Rattle.ed2k_link.specs.declared.fields.Found.{Found}
use Rattle.ed2k_link.specs.declared.fields.Found.TheVariants.{Never, Once, Again}

-- the hash that 32 hexadecimal digits of either case write
abbrev pub hash_of : List ℕ → Option (List ℕ)
hash_of text = result_ok (decode_sized text 16)

abbrev pub is_hash : List ℕ → Bool
is_hash text = is_some (hash_of text)

-- the part hashes, by the values of the fields `p=`: none without such a field, else the pieces
-- between the colons
abbrev pub AreParts : List (List ℕ) → List (List ℕ) → Type 0
AreParts [] parts = parts ≡ []
AreParts (text ∷ []) parts = map hash_of (split_at_colons text) ≡ map Some parts
AreParts (_ ∷ _ ∷ _) parts = ⊥

-- whether there are such part hashes: at most one field, of hashes alone
abbrev pub are_parts : List (List ℕ) → Bool
are_parts [] = true
are_parts (text ∷ []) = list_all is_hash (split_at_colons text)
are_parts (_ ∷ _ ∷ _) = false

-- the root hash, by the values of the fields `h=`
abbrev pub IsRoot : List (List ℕ) → Option (List ℕ) → Type 0
IsRoot [] root = root ≡ None
IsRoot (text ∷ []) root = MatchOption root ⊥ (λ bytes. Spells text bytes)
IsRoot (_ ∷ _ ∷ _) root = ⊥

-- whether there is such a root hash: at most one field, of base 32
abbrev pub is_root : List (List ℕ) → Bool
is_root [] = true
is_root (text ∷ []) = is_base32 text
is_root (_ ∷ _ ∷ _) = false

-- how many values there are, and the one
abbrev pub IsFound : List (List ℕ) → Found → Type 0
IsFound values Never = values ≡ []
IsFound values (Once value) = values ≡ value.now ∷ []
IsFound values Again =
    (first : List ℕ) × (second : List ℕ) × (rest : List (List ℕ)) × (values ≡ first ∷ second ∷ rest)

-- the fields: the items up to the first that is a lone `/`
abbrev pub fields_of : List (List ℕ) → List (List ℕ)
fields_of items = before_first is_end items

abbrev pub part_texts : List (List ℕ) → List (List ℕ)
part_texts items = values (codes "p=") (fields_of items)

abbrev pub root_texts : List (List ℕ) → List (List ℕ)
root_texts items = values (codes "h=") (fields_of items)

-- the items behind the hash write the part hashes and the root hash
pub record WriteFields (items : List (List ℕ)) (parts : List (List ℕ)) (root : Option (List ℕ)) : Type 0 where
  pub part_hashes : AreParts (part_texts items) parts
  pub root_hash : IsRoot (root_texts items) root
  pub ended : IsTrue (list_any is_end items)

-- the first fault of the items behind the hash
abbrev pub field_fault : List (List ℕ) → Option LinkFault
field_fault items =
    if not (are_parts (part_texts items)) then Some BadParts
    else if not (is_root (root_texts items)) then Some BadRoot
    else if not (list_any is_end items) then Some BadEnd
    else None

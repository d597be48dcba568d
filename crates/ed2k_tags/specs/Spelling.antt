-- How tags are written: with a length before each name and text, and numbers in four bytes where they fit.
use Rattle.std.specs.Prelude.{ℕ, ◌^◌, Bool, true, ◌&&◌, List, ◌∷◌, ◌++◌, length, nat_lt, if◌then◌else◌}
use Rattle.std.specs.List.{flat_map}
use Rattle.byteorder.specs.Endian.{little_bytes}
use Rattle.ed2k_tags.specs.declared.tag.Tag.{Tag}
use Rattle.ed2k_tags.specs.declared.tag.Value.{Value}
use Rattle.ed2k_tags.specs.declared.tag.Value.TheVariants.{Id, Text, Number, Raw4, Blob}
use Rattle.ed2k_tags.specs.Fields.{counted}

-- the type that a value is written with
abbrev pub value_type : Value → ℕ
value_type (Id hash) = 0x01
value_type (Text text) = 0x02
value_type (Number n) = if nat_lt n (2 ^ 32) then 0x03 else 0x0B
value_type (Raw4 raw) = 0x04
value_type (Blob blob) = 0x07

abbrev pub spell_value : Value → List ℕ
spell_value (Id hash) = hash
spell_value (Text text) = counted 2 text
spell_value (Number n) = if nat_lt n (2 ^ 32) then little_bytes 4 n else little_bytes 8 n
spell_value (Raw4 raw) = raw
spell_value (Blob blob) = counted 4 blob

abbrev pub spell : Tag → List ℕ
spell tag = value_type tag.value ∷ counted 2 tag.name ++ spell_value tag.value

-- a count of four bytes, and the tags
abbrev pub spell_tags : List Tag → List ℕ
spell_tags tags = little_bytes 4 (length tags) ++ flat_map spell tags

-- a length fits the field before it
abbrev pub fits_value : Value → Bool
fits_value (Text text) = nat_lt (length text) (2 ^ 16)
fits_value (Blob blob) = nat_lt (length blob) (2 ^ 32)
fits_value _ = true

-- what is read again
abbrev pub has_spelling : Tag → Bool
has_spelling tag = nat_lt (length tag.name) (2 ^ 16) && fits_value tag.value

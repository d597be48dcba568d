-- The grammar of a list of tags: which bytes spell which tags. A tag has one written spelling, and others
-- that are read too.
use Rattle.std.specs.Prelude.{◌≡◌, ℕ, ◌<◌, ◌≤◌, ◌^◌, ◌%◌, ◌⊎◌, List, [], ◌∷◌, ◌++◌, length, Some}
use Rattle.byteorder.specs.Endian.{little_bytes}
use Rattle.ed2k_tags.specs.declared.read.TheConstants.{TAG_LIMIT}
use Rattle.ed2k_tags.specs.declared.layout.Layout.{Layout}
use Rattle.ed2k_tags.specs.declared.layout.Layout.TheVariants.{Hash, LongText, Four, Raw, Unread, Two, One, Eight, BareText}
use Rattle.ed2k_tags.specs.declared.tag.Tag.{Tag}
use Rattle.ed2k_tags.specs.declared.tag.Value.{Value}
use Rattle.ed2k_tags.specs.declared.tag.Value.TheVariants.{Id, Text, Number, Raw4, Blob}
use Rattle.ed2k_tags.specs.Fields.{counted}
use Rattle.ed2k_tags.specs.Layout.{layout_of, short_bit}

-- a number in so many bytes
abbrev pub IsNumber : ℕ → ℕ → List ℕ → Type 0
IsNumber size n bytes = (n < 256 ^ size) × (bytes ≡ little_bytes size n)

-- a length of so many bytes, and as many bytes
abbrev pub IsCounted : ℕ → List ℕ → List ℕ → Type 0
IsCounted size text bytes = (length text < 256 ^ size) × (bytes ≡ counted size text)

-- so many bytes that stand for themselves
abbrev pub IsPlain : ℕ → List ℕ → List ℕ → Type 0
IsPlain count text bytes = (length text ≡ count) × (bytes ≡ text)

-- these bytes are the value, laid out so
abbrev pub IsValue : Layout → Value → List ℕ → Type 0
IsValue Hash (Id hash) bytes = IsPlain 16 hash bytes
IsValue LongText (Text text) bytes = IsCounted 2 text bytes
IsValue (BareText count) (Text text) bytes = IsPlain count text bytes
IsValue One (Number n) bytes = IsNumber 1 n bytes
IsValue Two (Number n) bytes = IsNumber 2 n bytes
IsValue Four (Number n) bytes = IsNumber 4 n bytes
IsValue Eight (Number n) bytes = IsNumber 8 n bytes
IsValue Raw (Raw4 raw) bytes = IsPlain 4 raw bytes
IsValue Unread (Blob blob) bytes = IsCounted 4 blob bytes
IsValue _ _ bytes = ⊥

-- The name behind a tag's first byte: its length and its bytes where the bit for a short name is clear,
-- and one byte where it is set.
abbrev pub IsName : ℕ → List ℕ → List ℕ → Type 0
IsName first name bytes = ((first < short_bit) × IsCounted 2 name bytes) ⊎ ((short_bit ≤ first) × IsPlain 1 name bytes)

-- the first byte has a type that is read, and then come the name and the value
pub record IsTag (tag : Tag) (bytes : List ℕ) : Type 0 where
  pub first : ℕ
  pub layout : Layout
  pub name : List ℕ
  pub value : List ℕ
  pub typed : layout_of (first % short_bit) ≡ Some layout
  pub is_byte : first < 256
  pub named : IsName first tag.name name
  pub valued : IsValue layout tag.value value
  pub spelled : bytes ≡ first ∷ name ++ value

-- one tag after another
abbrev pub AreTags : List Tag → List ℕ → Type 0
AreTags [] bytes = bytes ≡ []
AreTags (tag ∷ tags) bytes = (first rest : List ℕ) × IsTag tag first × AreTags tags rest × (bytes ≡ first ++ rest)

-- a count of four bytes, which the limit bounds, and as many tags
pub record IsTagList (tags : List Tag) (bytes : List ℕ) : Type 0 where
  pub body : List ℕ
  pub count : length tags ≤ TAG_LIMIT
  pub each : AreTags tags body
  pub spelled : bytes ≡ little_bytes 4 (length tags) ++ body

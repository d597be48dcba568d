-- The bytes of a record behind its gate.
use Rattle.std.specs.Prelude.{◌≡◌, ℕ, ◌+◌, ◌*◌, ◌/◌, ◌%◌, ◌<◌, ◌≤◌, ◌^◌, Bool, false, List, [], ◌∷◌, ◌++◌, length, get_or, if◌then◌else◌}
use Rattle.byteorder.specs.Endian.{little_bytes}
use Rattle.part_sizes.specs.declared.span.Span.{Span}
use Rattle.journal_core.specs.declared.record.Record.{Record}
use Rattle.journal_core.specs.declared.record.Record.TheVariants.{Set, Filled, Judged, Recovered, Dropped}

abbrev pub kind_of : Record → ℕ
kind_of (Set q) = 1
kind_of (Filled spans) = 2
kind_of (Judged i d) = 3
kind_of (Recovered i kept) = 4
kind_of (Dropped i) = 5

-- hashes of sixteen bytes
abbrev pub AreHashes : List (List ℕ) → Type 0
AreHashes [] = Unit {0}
AreHashes (hash ∷ q) = (length hash ≡ 16) × AreHashes q

abbrev pub spell_hashes : List (List ℕ) → List ℕ
spell_hashes [] = []
spell_hashes (hash ∷ q) = hash ++ spell_hashes q

-- spans of numbers of eight bytes
abbrev pub AreSpans : List Span → Type 0
AreSpans [] = Unit {0}
AreSpans (r ∷ spans) = (r.s < 256 ^ 8) × (r.e < 256 ^ 8) × AreSpans spans

abbrev pub spell_spans : List Span → List ℕ
spell_spans [] = []
spell_spans (r ∷ spans) = little_bytes 8 r.s ++ (little_bytes 8 r.e ++ spell_spans spans)

-- the bit k % 8 of the byte k / 8
abbrev pub bit_at : List ℕ → ℕ → ℕ
bit_at map k = get_or map (k / 8) 0 / (2 ^ (k % 8)) % 2

-- a bit as a number, and past the end 0
abbrev pub bit_of : List Bool → ℕ → ℕ
bit_of kept k = if get_or kept k false then 1 else 0

-- seven bytes that say of each block whether it is kept; the bits past the blocks say nothing
pub record IsMap (kept : List Bool) (map : List ℕ) : Type 0 where
  pub long : length map ≡ 7
  pub few : length kept ≤ 53
  pub bits : (k : ℕ) → k < length kept → bit_at map k ≡ bit_of kept k

abbrev pub IsPayload : Record → List ℕ → Type 0
IsPayload (Set q) bytes = (length q < 256 ^ 2) × AreHashes q × (bytes ≡ little_bytes 2 (length q) ++ spell_hashes q)
IsPayload (Filled spans) bytes = (length spans < 256 ^ 4) × AreSpans spans × (bytes ≡ little_bytes 4 (length spans) ++ spell_spans spans)
IsPayload (Judged i d) bytes = (i < 256 ^ 2) × (length d ≡ 16) × (bytes ≡ little_bytes 2 i ++ d)
IsPayload (Recovered i kept) bytes = (i < 256 ^ 2) × (map : List ℕ) × IsMap kept map × (bytes ≡ little_bytes 2 i ++ map)
IsPayload (Dropped i) bytes = (i < 256 ^ 2) × (bytes ≡ little_bytes 2 i ++ [])

-- kind, length of the payload, and payload
pub record IsSpelling (r : Record) (text : List ℕ) : Type 0 where
  pub payload : List ℕ
  pub is : IsPayload r payload
  pub fits : length payload < 256 ^ 4
  pub whole : text ≡ kind_of r ∷ (little_bytes 4 (length payload) ++ payload)

-- how a record is written

-- eight bits as a byte, the lowest first
abbrev pub byte_of : List Bool → ℕ → ℕ
byte_of kept k =
    bit_of kept (8 * k) + 2 * bit_of kept (8 * k + 1) + 4 * bit_of kept (8 * k + 2)
    + 8 * bit_of kept (8 * k + 3) + 16 * bit_of kept (8 * k + 4) + 32 * bit_of kept (8 * k + 5)
    + 64 * bit_of kept (8 * k + 6) + 128 * bit_of kept (8 * k + 7)

-- seven bytes, with zeros past the blocks
abbrev pub bitmap : List Bool → List ℕ
bitmap kept =
    byte_of kept 0 ∷ byte_of kept 1 ∷ byte_of kept 2 ∷ byte_of kept 3
    ∷ byte_of kept 4 ∷ byte_of kept 5 ∷ byte_of kept 6 ∷ []

abbrev pub payload_of : Record → List ℕ
payload_of (Set q) = little_bytes 2 (length q) ++ spell_hashes q
payload_of (Filled spans) = little_bytes 4 (length spans) ++ spell_spans spans
payload_of (Judged i d) = little_bytes 2 i ++ d
payload_of (Recovered i kept) = little_bytes 2 i ++ bitmap kept
payload_of (Dropped i) = little_bytes 2 i ++ []

abbrev pub text_of : Record → List ℕ
text_of r = kind_of r ∷ (little_bytes 4 (length (payload_of r)) ++ payload_of r)

-- the record behind its gate, and then a closed gate
pub record Spells (r : Record) (spelled : List ℕ) : Type 0 where
  pub is : IsSpelling r (text_of r)
  pub whole : spelled ≡ text_of r ++ 0 ∷ []

-- a recovered part has at most 53 blocks
abbrev pub HasFewBits : Record → Type 0
HasFewBits (Recovered i kept) = length kept ≤ 53
HasFewBits _ = Unit {0}

-- its spelling has at most 32 bytes
abbrev pub IsSmall : Record → Type 0
IsSmall (Set q) = ⊥
IsSmall (Filled spans) = ⊥
IsSmall _ = Unit {0}

-- records, each behind an open gate
abbrev pub AreSpelled : List Record → List ℕ → Type 0
AreSpelled [] bytes = bytes ≡ []
AreSpelled (r ∷ rs) bytes = (text : List ℕ) × (rest : List ℕ) × IsSpelling r text × (bytes ≡ 1 ∷ (text ++ rest)) × AreSpelled rs rest

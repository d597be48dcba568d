-- The bytes of a log file before its first record's gate.
use Rattle.std.specs.Prelude.{◌≡◌, ℕ, ◌≤◌, List, [], ◌∷◌, ◌++◌, length, Option, Some, None}
use Rattle.byteorder.specs.Endian.{little_bytes}
use Rattle.journal_core.specs.declared.header.Header.{Header}
use Rattle.journal_core.specs.declared.header.TheConstants.{SIZE_LIMIT}

-- "ED2KPF01"
abbrev pub magic : List ℕ
magic = 69 ∷ 68 ∷ 50 ∷ 75 ∷ 80 ∷ 70 ∷ 48 ∷ 49 ∷ []

-- a size that this layout can keep
abbrev pub IsKeptSize : ℕ → Type 0
IsKeptSize size = (1 ≤ size) × (size ≤ SIZE_LIMIT)

-- a flag and twenty bytes, which are the root where the flag is 1, and say nothing where it is 0
abbrev pub IsRoot : Option (List ℕ) → List ℕ → Type 0
IsRoot None bytes = (any : List ℕ) × (length any ≡ 20) × (bytes ≡ 0 ∷ any)
IsRoot (Some root) bytes = (length root ≡ 20) × (bytes ≡ 1 ∷ root)

-- what stands behind the header's gate: size, hash, and root
pub record AreFields (h : Header) (text : List ℕ) : Type 0 where
  pub root : List ℕ
  pub rooted : IsRoot h.root root
  pub sized : IsKeptSize h.size
  pub hashed : length h.hash ≡ 16
  pub whole : text ≡ little_bytes 8 h.size ++ h.hash ++ root

-- the magic bytes, the open gate, and the fields
abbrev pub IsHead : Header → List ℕ → Type 0
IsHead h bytes = (text : List ℕ) × AreFields h text × (bytes ≡ magic ++ 1 ∷ text)

-- Records that are read one behind another.
use Rattle.std.specs.Prelude.{◌≡◌, ℕ, ◌<◌, ◌≤◌, ◌^◌, List, ◌∷◌, ◌++◌, length, take, drop, Option, Some, None}
use Rattle.byteorder.specs.Endian.{little_bytes}
use Rattle.journal_core.specs.Faults.{IsBadRecord, IsBadTail}
use Rattle.journal_core.specs.Gates.{IsClosed}
use Rattle.journal_core.specs.LogFile.{aim_of}
use Rattle.journal_core.specs.Records.{AreSpelled, IsSpelling}
use Rattle.journal_core.specs.States.{AreLegal, MayFollow, State, nothing, state_of}
use Rattle.journal_core.specs.declared.header.Header.{Header}
use Rattle.journal_core.specs.declared.record.Record.{Record}
use Rattle.journal_core.specs.declared.walking.Ending.{Ending}
use Rattle.journal_core.specs.declared.walking.Ending.TheVariants.{Broken, Whole}

-- the bytes begin with a kind, a length and a payload of that length
pub record IsCut (bytes : List ℕ) (kind : ℕ) (payload : List ℕ) : Type 0 where
  pub rest : List ℕ
  pub fits : length payload < 256 ^ 4
  pub whole : bytes ≡ (kind ∷ (little_bytes 4 (length payload) ++ payload)) ++ rest

-- they begin with no record's spelling
abbrev pub IsUncut : List ℕ → Type 0
IsUncut bytes = (r : Record) (text rest : List ℕ) → IsSpelling r text → bytes ≡ text ++ rest → ⊥

-- they begin with the spelling of a record that may follow, of so many bytes, or with none
abbrev pub IsNext : Header → State → List ℕ → Option (Record × ℕ) → Type 0
IsNext h s bytes None = IsBadRecord h s bytes
IsNext h s bytes (Some found) = IsSpelling found.0 (take found.1 bytes) × MayFollow (aim_of h) s found.0 × (found.1 ≤ length bytes)

-- legal records stand from the first gate on up to this place
pub record Walked (h : Header) (bytes : List ℕ) (rs : List Record) (at : ℕ) : Type 0 where
  pub spelled : AreSpelled rs (take at bytes)
  pub legal : AreLegal (aim_of h) nothing rs
  pub within : at ≤ length bytes

-- they end with a closed gate, or at a place where no record may follow
abbrev pub IsWalked : Header → List ℕ → Ending → Type 0
IsWalked h bytes (Whole records at) = Walked h bytes records.items at × IsClosed (drop at bytes)
IsWalked h bytes (Broken at) = (rs : List Record) × Walked h bytes rs at × IsBadTail h (state_of h.size rs) (drop at bytes)

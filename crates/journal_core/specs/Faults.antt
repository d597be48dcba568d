-- Where a log file contradicts the format.
use Rattle.std.specs.Prelude.{◌≡◌, ◌≢◌, ◌⊎◌, ℕ, ◌<◌, ◌≤◌, List, [], ◌∷◌, ◌++◌, length, take, drop, get_or}
use Rattle.byteorder.specs.Endian.{little_number}
use Rattle.journal_core.specs.Headers.{IsHead, IsKeptSize, magic}
use Rattle.journal_core.specs.LogFile.{aim_of}
use Rattle.journal_core.specs.Records.{AreSpelled, IsSpelling}
use Rattle.journal_core.specs.States.{AreLegal, MayFollow, State, nothing, state_of}
use Rattle.journal_core.specs.declared.header.Header.{Header}
use Rattle.journal_core.specs.declared.record.Record.{Record}

-- the log has more than nine bytes, and this is the first byte that differs from the magic ones
pub record IsForeign (log : List ℕ) (at : ℕ) : Type 0 where
  pub long : 9 < length log
  pub within : at < 8
  pub same : take at log ≡ take at magic
  pub differs : get_or log at 0 ≢ get_or magic at 0

-- the log has more than nine bytes, begins with the magic ones, and its header's gate is open
pub record IsKept (log : List ℕ) : Type 0 where
  pub rest : List ℕ
  pub some : 1 ≤ length rest
  pub whole : log ≡ magic ++ 1 ∷ rest

-- the size that the header has
abbrev pub size_in : List ℕ → ℕ
size_in log = little_number 8 (drop 9 log)

-- the header's size is out of the limits
pub record IsBadSize (log : List ℕ) : Type 0 where
  pub there : 17 ≤ length log
  pub out : IsKeptSize (size_in log) → ⊥

-- the size is not a bad one, and the header ends early, or its flag is neither 0 nor 1
pub record IsBadHeader (log : List ℕ) : Type 0 where
  pub sized : IsBadSize log → ⊥
  pub bad : (length log < 55) ⊎ (1 < get_or log 33 0)

-- no record that may follow this state is spelled behind the gate
abbrev pub IsBadRecord : Header → State → List ℕ → Type 0
IsBadRecord h s bytes =
    (r : Record) (text rest : List ℕ) → IsSpelling r text → MayFollow (aim_of h) s r → bytes ≡ text ++ rest → ⊥

-- the log ends where a gate is due, or behind its open gate stands no record that may follow
abbrev pub IsBadTail : Header → State → List ℕ → Type 0
IsBadTail h s [] = Unit {0}
IsBadTail h s (gate ∷ rest) = (gate ≡ 1) × IsBadRecord h s rest

-- an open header and legal records, up to the place where the log contradicts the format
pub record StopsAt (log : List ℕ) (at : ℕ) : Type 0 where
  pub header : Header
  pub records : List Record
  pub head : List ℕ
  pub front : List ℕ
  pub tail : List ℕ
  pub is_head : IsHead header head
  pub spelled : AreSpelled records front
  pub legal : AreLegal (aim_of header) nothing records
  pub bad : IsBadTail header (state_of header.size records) tail
  pub at_end : at ≡ length (head ++ front)
  pub whole : log ≡ (head ++ front) ++ tail
  pub long : 55 ≤ length log

-- the place at which a kept log contradicts the format
abbrev pub BreaksAt : List ℕ → ℕ → Type 0
BreaksAt log at = ((at ≡ 9) × IsBadSize log) ⊎ (((at ≡ 33) × IsBadHeader log) ⊎ StopsAt log at)

-- the log isn't one of this format, and this is the place where it shows
abbrev pub IsNotOurs : List ℕ → ℕ → Type 0
IsNotOurs log at = IsForeign log at ⊎ (IsKept log × BreaksAt log at)

-- What a log file is loaded as.
use Rattle.std.specs.Prelude.{◌≡◌, ◌⊎◌, ℕ, ◌+◌, ◌<◌, ◌^◌, List}
use Rattle.journal_core.specs.Faults.{BreaksAt, IsBadHeader, IsBadSize, IsNotOurs}
use Rattle.journal_core.specs.Fresh.{IsFresh}
use Rattle.journal_core.specs.LogFile.{Stands}
use Rattle.journal_core.specs.States.{state_of}
use Rattle.journal_core.specs.declared.header.Header.{Header}
use Rattle.journal_core.specs.declared.loading.LoadFault.{LoadFault}
use Rattle.journal_core.specs.declared.loading.LoadFault.TheVariants.{Fault, Fresh, NoMemory, NotOurs}
use Rattle.journal_core.specs.declared.parsing.Parsed.{Parsed}
use Rattle.journal_core.specs.declared.parsing.Parsed.TheVariants as parsed
use Rattle.journal_core.specs.declared.record.Record.{Record}

-- the log stands for the fold of these records under this header, and ends at this gate
abbrev pub IsLoaded : Header → List Record → ℕ → List ℕ → Type 0
IsLoaded h rs gate log = (st : Stands h log (state_of h.size rs)) × (st.records ≡ rs) × (st.gate ≡ gate)

-- the place at which the header contradicts the format
abbrev pub IsBadAt : List ℕ → ℕ → Type 0
IsBadAt log at = ((at ≡ 9) × IsBadSize log) ⊎ ((at ≡ 33) × IsBadHeader log)

abbrev pub IsRead : Parsed → List ℕ → Type 0
IsRead (parsed.Log h rs gate) log = IsLoaded h rs.items gate log
IsRead (parsed.NotOurs at) log = BreaksAt log at

-- the gate where the log ends has a place after it
abbrev pub HasRoom : Parsed → Type 0
HasRoom (parsed.Log h rs gate) = gate + 1 < 2 ^ 64
HasRoom (parsed.NotOurs at) = Unit {0}

-- a log is refused by what it is; a fault of the vault and want of memory say nothing of it
abbrev pub Refuses : LoadFault → List ℕ → Type 0
Refuses Fresh log = IsFresh log
Refuses (NotOurs at) log = IsNotOurs log at
Refuses Fault log = Unit {0}
Refuses NoMemory log = Unit {0}

-- What a log file is found to be.
use Rattle.std.specs.Prelude.{List, ℕ}
use Rattle.journal_core.specs.Faults.{IsForeign, IsKept}
use Rattle.journal_core.specs.Fresh.{IsFresh}
use Rattle.journal_core.specs.declared.probing.Probe.{Probe}
use Rattle.journal_core.specs.declared.probing.Probe.TheVariants.{Foreign, Fresh, Kept}

abbrev pub IsProbed : Probe → List ℕ → Type 0
IsProbed Fresh log = IsFresh log
IsProbed Kept log = IsKept log
IsProbed (Foreign at) log = IsForeign log at

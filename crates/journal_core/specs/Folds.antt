-- What is kept while the records of a log are folded.
use Rattle.std.specs.Prelude.{◌≡◌, length, get_or, None}
use Rattle.std.specs.FinSet.{contains}
use Rattle.part_sizes.specs.Part.{IsSize, data_parts}
use Rattle.journal_core.specs.States.{State, after}
use Rattle.journal_core.specs.declared.folded.Folded.{Folded}
use Rattle.journal_core.specs.declared.record.Record.{Record}

-- the state that it keeps
abbrev pub told : Folded → State
told f = record { set = f.set.items; filled = λ x. contains f.filled.set x; verdict = λ i. get_or f.verdicts.items i None }

-- it has the positions and the parts of its file
pub record IsSized (f : Folded) : Type 0 where
  pub size : IsSize f.aim.size
  pub filled : f.filled.size ≡ f.aim.size
  pub parts : length f.verdicts.items ≡ data_parts f.aim.size

-- it keeps the state after one more record
pub record Adds (r : Record) (old new : Folded) : Type 0 where
  pub aim : new.aim ≡ old.aim
  pub sized : IsSized new
  pub told : told new ≡ after old.aim.size (told old) r

use Rattle.std.proofs.Common.{◌≡◌, ◌-◌, length}
use Rattle.journal_core.specs.Folds.{IsSized, told}
use Rattle.journal_core.specs.LogFile.{aim_of}
use Rattle.journal_core.specs.States.{state_of}
use Rattle.journal_core.specs.Walks.{Walked}
use Rattle.journal_core.proofs.walking.walk.Given as goal

abbrev pub invariant-walking : goal.invariant-walking
invariant-walking l = record {
  walked : Walked l.header l.bytes l.records.items l.at;
  aim : l.folded.aim ≡ aim_of l.header;
  sized : IsSized l.folded;
  state : told l.folded ≡ state_of l.header.size l.records.items;
}

abbrev pub decreases-walking : goal.decreases-walking
decreases-walking l = length l.bytes - l.at

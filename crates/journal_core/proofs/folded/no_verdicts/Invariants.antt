use Rattle.std.proofs.Common.{◌≡◌, ℕ, length, get_or, None}
use Rattle.journal_core.proofs.folded.no_verdicts.Given as goal

abbrev pub invariant-loop : goal.invariant-loop
invariant-loop l = record {
  len : length l.verdicts.items ≡ l.counter;
  none : (i : ℕ) → get_or l.verdicts.items i None ≡ None;
}

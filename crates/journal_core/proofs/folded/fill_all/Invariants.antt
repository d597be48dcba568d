use Rattle.std.proofs.Common.{◌≡◌, ℕ, ◌||◌, take}
use Rattle.std.specs.FinSet as set
use Rattle.std.specs.List.{list_any}
use Rattle.part_sizes.specs.Span.{has}
use Rattle.journal_core.proofs.folded.fill_all.Given as goal

abbrev pub invariant-loop-span : goal.invariant-loop-span
invariant-loop-span l = record {
  set : (x : ℕ) → set.contains l.filled.set x ≡ (set.contains l.initial.filled.set x || list_any (λ r. has r x) (take l.span-index l.spans));
  size : l.filled.size ≡ l.initial.filled.size;
}

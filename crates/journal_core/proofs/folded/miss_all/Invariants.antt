use Rattle.std.proofs.Common.{◌≡◌, ℕ, false, take, IsTrue}
use Rattle.std.specs.FinSet as set
use Rattle.std.specs.List.{list_any}
use Rattle.part_sizes.specs.Span.{has}
use Rattle.journal_core.proofs.folded.miss_all.Given as goal

abbrev pub invariant-loop-span : goal.invariant-loop-span
invariant-loop-span l = (x : ℕ) → IsTrue (list_any (λ r. has r x) (take l.span-index l.spans)) → set.contains l.filled.set x ≡ false

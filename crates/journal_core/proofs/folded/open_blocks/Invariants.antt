use Rattle.std.proofs.Common.{◌≡◌, ℕ, ◌&&◌, not, false, nat_lt, get_or, if◌then◌else◌}
use Rattle.std.specs.FinSet as set
use Rattle.part_sizes.specs.Block.{block_of}
use Rattle.part_sizes.specs.Part.{part_range}
use Rattle.part_sizes.specs.Span.{has}
use Rattle.journal_core.proofs.folded.open_blocks.Given as goal

abbrev pub invariant-loop-block : goal.invariant-loop-block
invariant-loop-block l = record {
  set : (x : ℕ) → set.contains l.filled.set x ≡ (if has (part_range l.size l.part) x && (nat_lt (block_of x) l.block && not (get_or l.kept (block_of x) false)) then false else set.contains l.initial.filled.set x);
  size : l.filled.size ≡ l.initial.filled.size;
}

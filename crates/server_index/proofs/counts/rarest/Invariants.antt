use Rattle.std.proofs.Common.{ℕ, length, ◌<◌, ◌≤◌, slice_index}
use Rattle.server_index.specs.Counts as said
use Rattle.server_index.proofs.counts.rarest.Given as goal

abbrev pub invariant-loop-i : goal.invariant-loop-i
invariant-loop-i l = (l.best < length l.keys)
    × ((k : ℕ) → k < l.i → said.count_of l.counts (slice_index l.keys l.best) ≤ said.count_of l.counts (slice_index l.keys k))

use Rattle.std.proofs.Common.{◌≡◌, ◌+◌, ◌≤◌, ◌++◌, ℕ, List, length}
use Rattle.std.specs.Prelude.{reverse, vec_len, vec_capacity}
use Rattle.std.specs.BTreeSet.{BTreeSet}
use Rattle.server_index.specs.Files.{IsSwept, file_at}
use Rattle.server_index.specs.Offers.{undone, IsUndoable}
use Rattle.server_index.proofs.offers.roll_back.Given as goal

abbrev pub invariant-loop-spot : goal.invariant-loop-spot
invariant-loop-spot l = IsUndoable (reverse l.changes.items) (file_at l.live.entries)
    × ((q : List ℕ × ℕ) → undone (reverse l.changes.items) (file_at l.live.entries) q ≡ undone (reverse l.initial.changes.items) (file_at l.initial.live.entries) q)
    × (vec_len l.displaced + vec_len l.changes ≤ vec_capacity l.displaced)
    × ((postings : BTreeSet (ℕ × (List ℕ × ℕ))) → IsSwept l.initial.live.entries postings (l.initial.changes.items ++ l.initial.displaced.items)
    → IsSwept l.live.entries postings (l.changes.items ++ l.displaced.items))

abbrev pub decreases-loop-spot : goal.decreases-loop-spot
decreases-loop-spot l = length l.changes.items

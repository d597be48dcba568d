use Rattle.std.proofs.Common.{◌≡◌, ◌≤◌, ◌+◌, ◌++◌, ℕ, List, length, take, nat_eq, false}
use Rattle.std.specs.Prelude.{reverse, vec_len, vec_capacity}
use Rattle.std.specs.Vec.Iter.{into_iter_items}
use Rattle.std.specs.BTreeSet.{IsSubset}
use Rattle.server_index.specs.Order.{posting_cmp}
use Rattle.server_index.specs.Files.{IsKept, IsSwept, file_at}
use Rattle.server_index.specs.Offers.{offered, undone, IsUndoable, IsOwned, held}
use Rattle.server_index.proofs.offers.offer_rows.Given as goal

-- what an offer has come to, in the middle of its files
abbrev pub invariant-loop-row : goal.invariant-loop-row
invariant-loop-row l =
    (goal.iterator-loop-row).can_next l.row-iterator ×
    (goal.iterator-loop-row).is_finite l.row-iterator ×
    IsKept l.files ×
    IsSubset posting_cmp l.fn.files.postings.set l.files.postings.set ×
    IsUndoable (reverse l.changes.items) (file_at l.files.live.entries) ×
    ((q : List ℕ × ℕ) → undone (reverse l.changes.items) (file_at l.files.live.entries) q ≡ file_at l.fn.files.live.entries q) ×
    IsOwned l.owner.number l.hashes.items l.files.live.entries ×
    (take l.held l.hashes.items ≡ l.fn.hashes.items) ×
    (l.held ≤ length l.hashes.items) ×
    (l.taken + length (into_iter_items l.row-iterator) ≤ length l.fn.rows.items) ×
    ((q : List ℕ × ℕ) → nat_eq q.1 l.owner.number ≡ false → file_at l.files.live.entries q ≡ file_at l.fn.files.live.entries q) ×
    (length l.hashes.items ≡ held l.owner.number l.files.live.entries) ×
    (offered l.owner l.taken l.files.live.entries (into_iter_items l.row-iterator) ≡ offered l.owner 0 l.fn.files.live.entries l.fn.rows.items) ×
    (vec_len l.displaced ≡ 0) ×
    (vec_len l.changes + length (into_iter_items l.row-iterator) ≤ length l.fn.rows.items) ×
    (length l.fn.rows.items + 1 ≤ vec_capacity l.displaced) ×
    IsSwept l.files.live.entries l.files.postings.set (l.changes.items ++ l.displaced.items)

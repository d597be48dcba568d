use Rattle.std.proofs.Common.{◌≡◌, true, ℕ, List, drop}
use Rattle.std.specs.Prelude.{◌||◌}
use Rattle.std.specs.List.{list_any}
use Rattle.std.specs.BTreeSet.{contains}
use Rattle.server_index.specs.Found.{is_above}
use Rattle.server_index.specs.Order.{posting_cmp}
use Rattle.server_index.proofs.merged.search_any.Given as goal

abbrev pub invariant-loop-key : goal.invariant-loop-key
invariant-loop-key l = (q : List ℕ × ℕ) → is_above l.after q.0 ≡ true → list_any (λ k. contains posting_cmp l.files.postings.set (k, q)) l.keys ≡ true
    → (list_any (λ k. contains posting_cmp l.files.postings.set (k, q)) (drop l.key-index l.keys) || contains posting_cmp l.list (1, q)) ≡ true

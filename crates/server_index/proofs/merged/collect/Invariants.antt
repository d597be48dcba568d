use Rattle.std.proofs.Common.{◌≡◌, true, ℕ, List}
use Rattle.std.specs.Prelude.{◌||◌}
use Rattle.std.specs.List.{list_any}
use Rattle.std.specs.BTreeMap.{is_at}
use Rattle.std.specs.BTreeSet.{IsSubset, contains}
use Rattle.server_index.specs.Found.{is_above}
use Rattle.server_index.specs.Order.{posting_cmp}
use Rattle.server_index.proofs.merged.collect.Given as goal

abbrev pub invariant-loop-posting : goal.invariant-loop-posting
invariant-loop-posting l =
    (goal.iterator-loop-posting).can_next l.posting-iterator ×
    (goal.iterator-loop-posting).is_finite l.posting-iterator ×
    IsSubset posting_cmp l.initial.list l.list ×
    ((q : List ℕ × ℕ) → is_above l.after q.0 ≡ true → contains posting_cmp l.postings (l.key, q) ≡ true
    → (list_any (is_at (posting_cmp (l.key, q))) l.posting-iterator || contains posting_cmp l.list (1, q)) ≡ true)

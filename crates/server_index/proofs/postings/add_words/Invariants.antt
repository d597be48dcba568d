use Rattle.std.proofs.Common.{◌≡◌, true, ℕ, List, ◌-◌, ◌≤◌, length, drop, nat_eq}
use Rattle.std.specs.Prelude.{◌||◌}
use Rattle.std.specs.List.{list_all, list_any}
use Rattle.std.specs.BTreeSet.{BTreeSet, IsSubset, contains}
use Rattle.server_index.specs.Order.{posting_cmp}
use Rattle.server_index.specs.Postings.{has_word, is_of, lists}
use Rattle.server_index.specs.Words as words
use Rattle.server_index.proofs.postings.add_words.Given as goal

abbrev pub invariant-loop-word : goal.invariant-loop-word
invariant-loop-word l = (l.at ≤ length l.name) × IsSubset posting_cmp l.initial.postings.set l.postings.set
    × ((s : BTreeSet (ℕ × (List ℕ × ℕ))) → IsSubset posting_cmp l.postings.set s → list_all (λ key. contains posting_cmp s (key, l.spot)) (words.keys (drop l.at l.name)) ≡ true → lists s l.name l.spot ≡ true)
    × ((k : ℕ) → list_any (nat_eq k) (words.keys (drop l.at l.name)) ≡ true → has_word l.name k ≡ true)
    × ((q : ℕ × (List ℕ × ℕ)) → contains posting_cmp l.postings.set q ≡ true → (contains posting_cmp l.initial.postings.set q || is_of l.spot l.name q) ≡ true)

abbrev pub decreases-loop-word : goal.decreases-loop-word
decreases-loop-word l = length l.name - l.at

use Rattle.std.proofs.Common.{◌≡◌, true, false, ℕ, List, nat_eq, ◌-◌, ◌≤◌, length, drop}
use Rattle.std.specs.List.{list_any}
use Rattle.std.specs.Ordering.{is_eq}
use Rattle.std.specs.BTreeSet.{IsSubset, contains}
use Rattle.server_index.specs.Order.{spot_cmp, posting_cmp}
use Rattle.server_index.specs.Postings.{has_word}
use Rattle.server_index.specs.Words as words
use Rattle.server_index.proofs.postings.drop_words.Given as goal

abbrev pub invariant-loop-word : goal.invariant-loop-word
invariant-loop-word l = (l.at ≤ length l.name)
    × ((key : ℕ) → has_word l.kept key ≡ true → contains posting_cmp l.postings.set (key, l.spot) ≡ contains posting_cmp l.initial.postings.set (key, l.spot))
    × ((q : ℕ × (List ℕ × ℕ)) → is_eq (spot_cmp l.spot q.1) ≡ false → contains posting_cmp l.postings.set q ≡ contains posting_cmp l.initial.postings.set q)
    × IsSubset posting_cmp l.postings.set l.initial.postings.set
    × ((k : ℕ) → has_word l.name k ≡ true → has_word l.kept k ≡ false → contains posting_cmp l.postings.set (k, l.spot) ≡ true → list_any (nat_eq k) (words.keys (drop l.at l.name)) ≡ true)

abbrev pub decreases-loop-word : goal.decreases-loop-word
decreases-loop-word l = length l.name - l.at

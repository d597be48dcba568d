use Rattle.std.proofs.Common.{◌≡◌, nat_eq, ◌-◌, ◌≤◌, length, drop}
use Rattle.std.specs.List.{list_any}
use Rattle.server_index.specs.Words as words
use Rattle.server_index.proofs.postings.has_key.Given as goal

abbrev pub invariant-loop-word : goal.invariant-loop-word
invariant-loop-word l = (list_any (nat_eq l.key) (words.keys l.text) ≡ list_any (nat_eq l.key) (words.keys (drop l.at l.text))) × (l.at ≤ length l.text)

abbrev pub decreases-loop-word : goal.decreases-loop-word
decreases-loop-word l = length l.text - l.at

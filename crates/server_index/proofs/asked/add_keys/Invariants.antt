use Rattle.std.proofs.Common.{length, ◌-◌, ◌≡◌, ◌≤◌, ◌++◌, drop}
use Rattle.server_index.specs.Words.{keys}
use Rattle.server_index.proofs.asked.add_keys.Given as goal

abbrev pub invariant-loop-word : goal.invariant-loop-word
invariant-loop-word l = (l.out.items ++ keys (drop l.at l.text) ≡ l.fn.out.items ++ keys l.text) × (l.at ≤ length l.text)

abbrev pub decreases-loop-word : goal.decreases-loop-word
decreases-loop-word l = length l.text - l.at

use Rattle.std.proofs.Common.{length, ◌-◌, ◌≡◌, ◌≤◌, drop}
use Rattle.server_index.specs.Words as words
use Rattle.server_index.proofs.words.skip.Given as goal

abbrev pub invariant-loop-place : goal.invariant-loop-place
invariant-loop-place l = (words.keys (drop l.place l.text) ≡ words.keys (drop l.at l.text)) × (l.at ≤ l.place) × (l.place ≤ length l.text)

abbrev pub decreases-loop-place : goal.decreases-loop-place
decreases-loop-place l = length l.text - l.place

use Rattle.std.proofs.Common.{length, ◌-◌, ◌≡◌, ◌≤◌, drop}
use Rattle.server_index.specs.Words as words
use Rattle.server_index.proofs.words.rest_of_word.Given as goal

abbrev pub invariant-loop-end : goal.invariant-loop-end
invariant-loop-end l = (words.keys_behind l.key (drop l.end l.text) ≡ words.keys_behind l.first (drop l.at l.text)) × (l.at ≤ l.end) × (l.end ≤ length l.text)

abbrev pub decreases-loop-end : goal.decreases-loop-end
decreases-loop-end l = length l.text - l.end

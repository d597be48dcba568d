use Rattle.std.proofs.Common.{length, ◌-◌, ◌≡◌, ◌≤◌, ◌<◌, drop, map}
use Rattle.std.specs.List.{slice_range}
use Rattle.search_expr.specs.Words as words
use Rattle.search_expr.proofs.words.word_end.Given as goal

abbrev pub invariant-loop-end : goal.invariant-loop-end
invariant-loop-end l = (words.runs (map words.lower (slice_range l.text l.at l.end)) (drop l.end l.text) ≡ words.words (drop l.at l.text)) × (l.at < l.end) × (l.end ≤ length l.text)

abbrev pub decreases-loop-end : goal.decreases-loop-end
decreases-loop-end l = length l.text - l.end

use Rattle.std.proofs.Common.{length, ◌-◌, ◌≡◌, ◌≤◌, map}
use Rattle.search_expr.specs.Words as words
use Rattle.search_expr.proofs.ScanLemmas.{rest_words}
use Rattle.search_expr.proofs.words.has_word.Given as goal

abbrev pub invariant-loop-at : goal.invariant-loop-at
invariant-loop-at l =
    (words.has_word (rest_words l.text l.at) (map words.lower l.word) ≡ words.has_word (words.words l.text) (map words.lower l.word))
    × (l.at ≤ length l.text)

abbrev pub decreases-loop-at : goal.decreases-loop-at
decreases-loop-at l = length l.text - l.at

use Rattle.std.proofs.Common.{length, ◌≡◌}
use Rattle.search_expr.specs.Words as words
use Rattle.search_expr.proofs.words.has_words.Given as goal

abbrev pub invariant-loop-next : goal.invariant-loop-next
invariant-loop-next l = words.has_words l.rest l.name ≡ words.has_words l.text l.name

abbrev pub decreases-loop-next : goal.decreases-loop-next
decreases-loop-next l = length l.rest

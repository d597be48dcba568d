use Rattle.std.proofs.Common.{◌<◌, ◌≤◌, length, arith, sym, ◌∙◌}
use Rattle.search_expr.proofs.WordLemmas.{runs-more}
use Rattle.search_expr.proofs.words.word_end.Goals as goal

pub loop-end-preserved : goal.loop-end-preserved
loop-end-preserved c = (runs-more c.args.text.now c.args.at c.loop-end.end (omega arith) c.loop-end-test.true (sym c.is_word_byte.ensures ∙ c.if-is_word_byte.true) c.loop-end.invariant.0, omega arith, omega arith)

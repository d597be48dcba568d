use Rattle.std.proofs.Common.{sym, ◌∙◌, map, drop, take, ◌-◌}
use Rattle.std.specs.List.{slice_range}
use Rattle.search_expr.specs.Words as words
use Rattle.search_expr.proofs.ScanLemmas.{no_start, stands-is}
use Rattle.search_expr.proofs.words.is_word_at.Goals as goal

pub returns-then-not-begins_word : goal.returns-then-not-begins_word
returns-then-not-begins_word c = sym (no_start c.args.word.now c.args.text.now c.args.at c.requires.word c.requires.inside (sym c.begins_word.ensures ∙ c.if-not-begins_word.true))

pub returns : goal.returns
returns c =
    c.same_text.ensures
    ∙ stands-is c.args.word.now c.args.text.now c.args.at (slice_range c.args.text.now c.args.at c.word_end-end.result) (words.words (drop c.word_end-end.result c.args.text.now)) c.requires.inside (sym c.begins_word.ensures ∙ c.if-not-begins_word.false) c.word_end-end.ensures.words

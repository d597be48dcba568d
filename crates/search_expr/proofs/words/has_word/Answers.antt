use Rattle.std.proofs.Common.{◌≡◌, false, sym, ◌∙◌, map, arith}
use Rattle.std.proofs.lemmas.Bool.{ne_eqb}
use Rattle.search_expr.specs.Words as words
use Rattle.search_expr.proofs.ScanLemmas.{at_start, further, found, differs_by, at_end}
use Rattle.search_expr.proofs.words.has_word.Goals.{else-first-lowered-via-then-first-lowered+else-is_word_at, else-first-lowered-via-else-first-lowered}
use Rattle.search_expr.proofs.words.has_word.Goals as goal

pub loop-at-init : goal.loop-at-init
loop-at-init c = (at_start (map words.lower c.args.word.now) c.args.text.now, omega arith)

pub returns-then-is_word_at : goal.returns-then-is_word_at
returns-then-is_word_at c = sym (found c.args.word.now c.args.text.now c.loop-at.at c.requires c.loop-at-test.true (sym c.is_word_at.ensures ∙ c.if-is_word_at.true)) ∙ c.loop-at.invariant.0

pub loop-at-preserved : goal.loop-at-preserved
loop-at-preserved c =
    let missed : words.stands_at (map words.lower c.args.word.now) c.args.text.now c.loop-at.at ≡ false =
    elim c.else-first-lowered.branch [
      | else-first-lowered-via-then-first-lowered+else-is_word_at w ↦ sym w.is_word_at.ensures ∙ w.if-is_word_at.false
      | else-first-lowered-via-else-first-lowered w ↦ differs_by c.args.word.now c.args.text.now c.loop-at.at c.lowered-first.result c.lowered.result c.requires c.loop-at-test.true c.lowered-first.ensures c.lowered.ensures (ne_eqb _ _ w.if-first-lowered.false)
    ] in
    (further (map words.lower c.args.word.now) c.args.text.now c.loop-at.at c.loop-at-test.true missed ∙ c.loop-at.invariant.0, omega (arith, c.loop-at-test.true))

pub returns : goal.returns
returns c = sym (at_end (map words.lower c.args.word.now) c.args.text.now c.loop-at.at (omega (arith, c.loop-at-test.false))) ∙ c.loop-at.invariant.0

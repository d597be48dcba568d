use Rattle.std.proofs.Common.{◌∙◌, sym}
use Rattle.ed2k_link.proofs.Lists.{first_text, no_end}
use Rattle.ed2k_link.proofs.items.fields.Goals as goal

pub returns-then-is_end-clause-before : goal.returns-then-is_end-clause-before
returns-then-is_end-clause-before c =
    (first_text c.args.items.now c.loop-place.place _ c.loop-place-test.true c.loop-place.invariant (sym c.is_end.ensures ∙ c.if-is_end.true)).0

pub returns-then-is_end-clause-ended : goal.returns-then-is_end-clause-ended
returns-then-is_end-clause-ended c =
    sym (first_text c.args.items.now c.loop-place.place _ c.loop-place-test.true c.loop-place.invariant (sym c.is_end.ensures ∙ c.if-is_end.true)).1

pub returns-clause-before : goal.returns-clause-before
returns-clause-before c = no_end c.args.items.now c.loop-place.place c.loop-place-test.false c.loop-place.invariant

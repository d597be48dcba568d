use Rattle.std.proofs.Common.{ap, ◌∙◌}
use Rattle.std.specs.Ordering.{nat_cmp}
use Rattle.std.specs.FinSet as set
use Rattle.journal_core.specs.Folds.{told}
use Rattle.journal_core.specs.States.{nothing}
use Rattle.journal_core.proofs.Held.{alike-is}
use Rattle.journal_core.proofs.folded.Folded.new.Goals as goal

pub returns-clause-told : goal.returns-clause-told
returns-clause-told c =
    alike-is (told record { aim = c.args.aim; set = c.new.result; filled = c.new-2.result; verdicts = c.in_ok-no_verdicts.field-0 }) nothing
    (record { set = c.new.ensures.items; filled = λ x. ap (λ members. set.contains members x) c.new-2.ensures.set ∙ set.contains-empty nat_cmp x; verdict = λ i. c.in_ok-no_verdicts.ensures.none i })

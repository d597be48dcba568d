use Rattle.std.proofs.Common.{ap, ◌∙◌, if◌then◌else◌, false}
use Rattle.std.specs.FinSet as set
use Rattle.part_sizes.specs.Span.{has}
use Rattle.journal_core.proofs.Folding.{taken}
use Rattle.journal_core.proofs.folded.open_span.Goals as goal

pub returns-clause-set : goal.returns-clause-set
returns-clause-set c = λ x.
    ap (λ members. set.contains members x) c.take.ensures.set
    ∙ taken c.reserve.new.self.set c.args.span x
    ∙ ap (λ members. if has c.args.span x then false else set.contains members x) c.reserve.ensures.set

use Rattle.std.proofs.Common.{ap, sym, ◌∙◌, is_none, find, not}
use Rattle.std.specs.FinSet as set
use Rattle.part_sizes.specs.Span.{positions}
use Rattle.journal_core.proofs.Folding.{is-first, none-is}
use Rattle.journal_core.proofs.folded.Folded.is_full.Goals as goal

pub returns : goal.returns
returns c =
    none-is c.first_out.result c.is_none.result (sym c.is_none.ensures)
    ∙ ap is_none (is-first c.first_out.result c.part_range.result c.args.self.now.filled.set c.first_out.ensures)
    ∙ ap (λ span. is_none (find (λ x. not (set.contains c.args.self.now.filled.set x)) (positions span))) c.part_range.ensures

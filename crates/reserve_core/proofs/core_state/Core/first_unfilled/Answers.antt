use Rattle.std.proofs.Common.{not, find, ap, ◌∙◌}
use Rattle.part_sizes.specs.Span.{positions}
use Rattle.part_sizes.specs.declared.span.Span.{Span}
use Rattle.reserve_core.specs.Events.{events}
use Rattle.reserve_core.specs.Filled.{first_unfilled, is_filled}
use Rattle.reserve_core.specs.Seen.{Seen}
use Rattle.reserve_core.proofs.Answered.{is_first}
use Rattle.reserve_core.proofs.core_state.Core.first_unfilled.Goals as goal

pub returns : goal.returns
returns c =
    let inside = c.self.inside in
    is_first c.first_out.result c.part_range.result inside.filled.set (is_filled inside.aim.size (events inside.log.items)) c.self.invariant.tells.filled c.first_out.ensures
    ∙ ap (λ (span : Span). find (λ x. not (is_filled inside.aim.size (events inside.log.items) x)) (positions span)) c.part_range.ensures
    ∙ ap (λ (v : Seen). first_unfilled v.aim.size (events v.log) c.args.part) c.self.view_is

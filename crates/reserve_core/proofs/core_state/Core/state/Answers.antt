use Rattle.std.proofs.Common.{ℕ, ◌<◌, slice_index_or, ap, sym, subst, ◌∙◌}
use Rattle.part_sizes.specs.Part.{data_parts}
use Rattle.reserve_core.specs.Events.{events}
use Rattle.reserve_core.specs.Seen.{Seen}
use Rattle.reserve_core.specs.Tells.{part_state}
use Rattle.reserve_core.proofs.core_state.Core.state.Goals as goal

pub returns : goal.returns
returns c =
    let exists = subst (λ (v : Seen). c.args.part < data_parts v.aim.size) (sym c.self.view_is) c.requires in
    c.index.ensures
    ∙ ap (λ (i : ℕ). slice_index_or c.self.inside.states.items i c.index.result.now) c.from.ensures
    ∙ c.self.invariant.tells.state c.args.part c.index.result.now exists
    ∙ ap (λ (v : Seen). part_state v.aim (events v.log) c.args.part) c.self.view_is

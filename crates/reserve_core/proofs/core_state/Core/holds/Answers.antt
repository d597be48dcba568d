use Rattle.std.proofs.Common.{List, not, ap, ◌∙◌}
use Rattle.reserve_core.specs.Events.{events}
use Rattle.reserve_core.specs.Held.{is_holder}
use Rattle.reserve_core.specs.Holders.{kept_for}
use Rattle.reserve_core.specs.Seen.{Seen}
use Rattle.reserve_core.specs.declared.hold.Holder.{Holder}
use Rattle.reserve_core.proofs.Answered.{is_holder-is}
use Rattle.reserve_core.proofs.core_state.Core.holds.Goals as goal

pub returns : goal.returns
returns c =
    let ranges = c.ranges_of.ensures ∙ ap (λ (xs : List Holder). kept_for xs c.args.peer) c.deref.ensures.value ∙ c.self.invariant.held.ranges c.args.peer in
    ap not c.is_empty.ensures
    ∙ is_holder-is (events c.self.inside.log.items) c.args.peer c.ranges_of.result.now ranges
    ∙ ap (λ (v : Seen). is_holder (events v.log) c.args.peer) c.self.view_is

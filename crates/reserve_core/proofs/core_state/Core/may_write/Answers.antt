use Rattle.std.proofs.Common.{List, ap, sym, ◌∙◌}
use Rattle.reserve_core.specs.Events.{events}
use Rattle.reserve_core.specs.Held.{may_write}
use Rattle.reserve_core.specs.Holders.{kept_for}
use Rattle.reserve_core.specs.Seen.{Seen}
use Rattle.reserve_core.specs.declared.hold.Holder.{Holder}
use Rattle.reserve_core.proofs.Answered.{may_write-is}
use Rattle.reserve_core.proofs.core_state.Core.may_write.Goals as goal

pub returns-then-not-is_empty : goal.returns-then-not-is_empty
returns-then-not-is_empty c =
    let ranges = c.ranges_of.ensures ∙ ap (λ (xs : List Holder). kept_for xs c.args.peer) c.deref.ensures.value ∙ c.self.invariant.held.ranges c.args.peer in
    c.reaches.ensures
    ∙ may_write-is (events c.self.inside.log.items) c.args.peer c.args.span c.ranges_of.result.now ranges (sym c.is_empty.ensures ∙ c.if-not-is_empty.true)
    ∙ ap (λ (v : Seen). may_write (events v.log) c.args.peer c.args.span) c.self.view_is

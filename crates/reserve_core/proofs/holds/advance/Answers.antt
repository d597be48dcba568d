use Rattle.std.proofs.Common.{◌≡◌, ℕ, ◌<◌, List, length, slice_index_or, ap, sym, subst, ◌∙◌}
use Rattle.std.specs.List.{filter}
use Rattle.reserve_core.specs.Held.{is_open}
use Rattle.reserve_core.specs.Steps.{past}
use Rattle.reserve_core.specs.declared.hold.Hold.{Hold}
use Rattle.reserve_core.proofs.Lists.{is_map, written_back}
use Rattle.reserve_core.proofs.holds.advance.Goals as goal

pub returns : goal.returns
returns c =
    let now = c.args.ranges.now in
    let new = c.advance_all.new.ranges in
    let old = c.deref_mut.ensures.value in
    let long : length new ≡ length now.items = c.advance_all.auto.ranges ∙ ap length old in
    let each = subst (λ (hs : List Hold). (k : ℕ) (d : Hold) → k < length hs → slice_index_or new k d ≡ past c.args.span (slice_index_or hs k d)) old c.advance_all.ensures in
    c.leave_open.ensures
    ∙ ap (filter is_open) (written_back now.len new now.items (sym c.deref_mut.ensures.len ∙ ap length old) long ∙ is_map (past c.args.span) now.items new long each)

use Rattle.std.proofs.Common.{◌≤◌, List, length, ap, sym, subst, ◌∙◌}
use Rattle.reserve_core.specs.Events.{events}
use Rattle.reserve_core.specs.Legal.{MayHash}
use Rattle.reserve_core.specs.Seen.{Seen, newest_calls}
use Rattle.reserve_core.specs.declared.event.Entry.{Entry}
use Rattle.reserve_core.proofs.Added.{newest-pushed}
use Rattle.reserve_core.proofs.Dropped.{keeps-hashes}
use Rattle.reserve_core.proofs.core_state.Core.keep_set.Goals as goal

pub invariant_of-self : goal.invariant_of-self
invariant_of-self c =
    let is = c.self.view_is in
    rw (c.push_reserved.ensures.items, c.push_reserved.ensures.len, c.push_reserved.ensures.capacity)
    (keeps-hashes _ _ _ _ _ _ _ _ _ _ _ _ _ c.args.calls _ c.args.set c.self.invariant
    (subst (λ (log : List Entry). newest_calls 0 log ≤ c.args.calls) (sym (ap (λ (v : Seen). v.log) is)) c.requires.calls)
    (subst (λ (v : Seen). MayHash v.aim (events v.log) c.args.set) (sym is) c.requires.may)
    (ap length c.as_slice-place.ensures.value)
    (ap (λ (v : Seen). v.can_add) is ∙ c.requires.entry))

pub returns-clause-newest : goal.returns-clause-newest
returns-clause-newest c = newest-pushed _ _ c.args.calls _ c.push_reserved.ensures.items

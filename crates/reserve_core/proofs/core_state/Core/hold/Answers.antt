use Rattle.std.proofs.Common.{◌+◌, ◌≤◌, ◌++◌, [], List, length, map, ap, sym, subst, ◌∙◌, refl, arith}
use Rattle.part_sizes.specs.declared.span.Span.{Span}
use Rattle.reserve_core.specs.Events.{events}
use Rattle.reserve_core.specs.Held.{hold_after}
use Rattle.reserve_core.specs.Holders.{Replaces, kept_for}
use Rattle.reserve_core.specs.Legal.{MayReserve}
use Rattle.reserve_core.specs.Seen.{Seen, newest_calls}
use Rattle.reserve_core.specs.declared.event.Entry.{Entry}
use Rattle.reserve_core.specs.declared.event.Event.TheVariants.{Reserve}
use Rattle.reserve_core.proofs.Added.{keeps-added, newest-pushed}
use Rattle.reserve_core.proofs.HolderEdits.{err-fact, holding-le, ok-fact}
use Rattle.reserve_core.proofs.HoldersAfter.{holders-reserve, keeps-refused}
use Rattle.reserve_core.proofs.Quiet.{room-taken}
use Rattle.reserve_core.proofs.Reserved.{tells-reserve}
use Rattle.reserve_core.proofs.core_state.Core.hold.Goals as goal

pub invariant_of-self : goal.invariant_of-self
invariant_of-self c =
    keeps-refused _ _ _ _ _ _ c.args.peer _ _ _ _ _ _ _ (err-fact c.hold.result _ c.hold.ensures.refused (sym c.is_err.ensures.value ∙ c.if-is_err.true)) c.self.invariant

pub invariant_of-self-2 : goal.invariant_of-self-2
invariant_of-self-2 c =
    let is = c.self.view_is in
    let inside = c.self.inside in
    let may = subst (λ (v : Seen). MayReserve v.aim (events v.log) c.args.peer c.args.spans) (sym is) c.requires.may in
    let edit = subst (λ (rs : List Span). Replaces inside.holders.items c.hold.new.holders.items c.args.peer (kept_for inside.holders.items c.args.peer ++ map (hold_after c.args.peer []) rs)) c.as_slice.ensures
    (ok-fact c.hold.result _ c.hold.ensures.ok (sym c.is_err.ensures.value ∙ c.if-is_err.false)) in
    rw (c.push_reserved.ensures.items, c.push_reserved.ensures.len, c.push_reserved.ensures.capacity)
    (keeps-added _ _ _ _ _ _ _ _ _ _ _ _ _ _ _ _ _ _ c.args.calls (Reserve c.args.peer c.args.spans)
    (record {
      keeps = c.self.invariant;
      above = subst (λ (log : List Entry). newest_calls 0 log ≤ c.args.calls) (sym (ap (λ (v : Seen). v.log) is)) c.requires.calls;
      allowed = may;
      other = refl;
    })
    refl
    (tells-reserve _ _ inside.filled inside.fresh inside.states.items _ c.args.peer c.args.spans may.chosen c.self.invariant.tells)
    (holders-reserve inside.aim.size _ _ _ c.args.peer c.args.spans may.chosen edit c.self.invariant.held)
    refl
    (room-taken _ _ _ _ _ (length inside.holders.items + 1) _ (length inside.states.items) _ c.self.invariant.tells.count
    (ap (λ (v : Seen). v.can_hold) is ∙ c.requires.room)
    (omega (arith, edit.holding, holding-le inside.holders.items))))

pub returns-clause-newest : goal.returns-clause-newest
returns-clause-newest c = newest-pushed _ _ c.args.calls _ c.push_reserved.ensures.items

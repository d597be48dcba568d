use Rattle.std.proofs.Common.{◌≡◌, ◌≤◌, true, List, [], length, ap, sym, subst, ◌∙◌, refl, arith}
use Rattle.reserve_core.specs.Events.{events}
use Rattle.reserve_core.specs.Held.{is_holder}
use Rattle.reserve_core.specs.Holders.{Replaces}
use Rattle.reserve_core.specs.Seen.{Seen, newest_calls}
use Rattle.reserve_core.specs.declared.event.Entry.{Entry}
use Rattle.reserve_core.specs.declared.event.Event.TheVariants.{Release}
use Rattle.reserve_core.specs.declared.hold.Holder.{Holder}
use Rattle.reserve_core.proofs.Added.{keeps-added, moved_end-behind, newest-pushed}
use Rattle.reserve_core.proofs.Events.{tells-release, room-release}
use Rattle.reserve_core.proofs.HolderEdits.{holding-some}
use Rattle.reserve_core.proofs.HoldersAfter.{holder-some, holders-release}
use Rattle.reserve_core.proofs.Lists.{written_back}
use Rattle.reserve_core.proofs.core_state.Core.release.Goals as goal

pub push_reserved-requires : goal.push_reserved-requires
push_reserved-requires c =
    let inside = c.self.inside in
    let holder : is_holder (events inside.log.items) c.args.peer ≡ true = ap (λ (v : Seen). is_holder (events v.log) c.args.peer) c.self.view_is ∙ sym c.holds.ensures ∙ c.if-not-holds.false in
    let some = holder-some (events inside.log.items) inside.holders.items c.args.peer c.self.invariant.held holder in
    omega (arith, holding-some inside.holders.items c.args.peer some, c.self.invariant.room.log)

pub invariant_of-self : goal.invariant_of-self
invariant_of-self c =
    let is = c.self.view_is in
    let inside = c.self.inside in
    let old = c.deref_mut.ensures.value in
    let long : length c.release.new.holders ≡ length inside.holders.items = c.release.auto.holders ∙ ap length old in
    let back = written_back inside.holders.len c.release.new.holders inside.holders.items (sym c.deref_mut.ensures.len ∙ ap length old) long in
    let edit = subst (λ (xs : List Holder). Replaces xs c.release.new.holders c.args.peer []) old c.release.ensures in
    let holder : is_holder (events inside.log.items) c.args.peer ≡ true = ap (λ (v : Seen). is_holder (events v.log) c.args.peer) is ∙ sym c.holds.ensures ∙ c.if-not-holds.false in
    let some = holder-some (events inside.log.items) inside.holders.items c.args.peer c.self.invariant.held holder in
    rw (back, c.push_reserved.ensures.items, c.push_reserved.ensures.len, c.push_reserved.ensures.capacity)
    (keeps-added _ _ _ _ _ _ _ _ _ _ _ _ _ _ _ _ _ _ c.args.calls (Release c.args.peer)
    (record {
      keeps = c.self.invariant;
      above = subst (λ (log : List Entry). newest_calls 0 log ≤ c.args.calls) (sym (ap (λ (v : Seen). v.log) is)) c.requires;
      allowed = holder;
      other = refl;
    })
    refl
    (tells-release _ _ _ _ _ _ c.args.peer c.self.invariant.tells)
    (holders-release _ _ _ c.args.peer edit c.self.invariant.held)
    (moved_end-behind inside.log.items c.args.calls (Release c.args.peer) _ (ap length (c.as_slice.ensures.value ∙ c.push_reserved.ensures.items)))
    (room-release _ _ c.args.peer _ _ _ _ _ c.self.invariant.room (omega (arith, edit.holding, some))))

pub returns-clause-newest : goal.returns-clause-newest
returns-clause-newest c = newest-pushed _ _ c.args.calls _ c.push_reserved.ensures.items

use Rattle.std.proofs.Common.{◌≡◌, ℕ, ◌≤◌, ◌<◌, ◌==◌, true, if◌then◌else◌, min, List, length, map, slice_index_or, ap, sym, subst, ◌∙◌, refl, arith}
use Rattle.part_sizes.specs.Part.{part_of}
use Rattle.reserve_core.specs.Events.{events}
use Rattle.std.specs.List.{filter}
use Rattle.reserve_core.specs.Held.{is_open, may_write}
use Rattle.reserve_core.specs.Holders.{Replaces, holding, kept_for}
use Rattle.reserve_core.specs.Seen.{Seen, newest_calls}
use Rattle.reserve_core.specs.declared.event.Entry.{Entry}
use Rattle.reserve_core.specs.declared.event.Event.TheVariants.{Write}
use Rattle.reserve_core.specs.declared.part_state.PartState.{PartState}
use Rattle.reserve_core.specs.Steps.{past}
use Rattle.reserve_core.specs.declared.hold.Holder.{Holder}
use Rattle.reserve_core.proofs.Added.{keeps-added, moved_end-behind, newest-pushed}
use Rattle.reserve_core.proofs.Answered.{may-in-part, in_part-end}
use Rattle.reserve_core.proofs.Events.{InPart, tells-write, room-write, rest-le}
use Rattle.reserve_core.proofs.HolderEdits.{holding-le}
use Rattle.reserve_core.proofs.HoldersAfter.{holders-write}
use Rattle.reserve_core.proofs.Lists.{written_back}
use Rattle.reserve_core.proofs.OneRange.{alike-legal}
use Rattle.reserve_core.proofs.core_state.Core.fill.Goals as goal

pub part_of-part-requires-clause-within : goal.part_of-part-requires-clause-within
part_of-part-requires-clause-within c =
    let held = subst (λ (v : Seen). may_write (events v.log) c.args.peer c.args.span ≡ true) (sym c.self.view_is) c.requires.held in
    let in_part : InPart c.self.inside.aim.size c.args.span = may-in-part _ _ _ _ _ _ c.args.peer c.args.span c.self.invariant.tells held in
    let end = in_part-end _ _ in_part in
    omega (arith, in_part.some, end)

pub add-requires-clause-within : goal.add-requires-clause-within
add-requires-clause-within c =
    let held = subst (λ (v : Seen). may_write (events v.log) c.args.peer c.args.span ≡ true) (sym c.self.view_is) c.requires.held in
    let in_part : InPart c.self.inside.aim.size c.args.span = may-in-part _ _ _ _ _ _ c.args.peer c.args.span c.self.invariant.tells held in
    let end = in_part-end _ _ in_part in
    (omega (arith, in_part.some), omega (arith, end, c.self.invariant.tells.filled_size))

pub add-requires-2-clause-within : goal.add-requires-2-clause-within
add-requires-2-clause-within c =
    let held = subst (λ (v : Seen). may_write (events v.log) c.args.peer c.args.span ≡ true) (sym c.self.view_is) c.requires.held in
    let in_part : InPart c.self.inside.aim.size c.args.span = may-in-part _ _ _ _ _ _ c.args.peer c.args.span c.self.invariant.tells held in
    let end = in_part-end _ _ in_part in
    (omega (arith, in_part.some), omega (arith, end, c.self.invariant.tells.fresh_size))

pub invariant_of-self : goal.invariant_of-self
invariant_of-self c =
    let is = c.self.view_is in
    let inside = c.self.inside in
    let held = subst (λ (v : Seen). may_write (events v.log) c.args.peer c.args.span ≡ true) (sym is) c.requires.held in
    let in_part : InPart inside.aim.size c.args.span = may-in-part _ _ _ _ _ _ c.args.peer c.args.span c.self.invariant.tells held in
    let old = c.deref_mut-2.ensures.value in
    let long : length c.open_part.new.states ≡ length inside.states.items = c.open_part.auto.states ∙ ap length old in
    let back = written_back inside.states.len c.open_part.new.states inside.states.items (sym c.deref_mut-2.ensures.len ∙ ap length old) long in
    let each = subst (λ (states : List PartState). (i : ℕ) (d : PartState) → i < length states → slice_index_or c.open_part.new.states i d ≡ record { verdict = (slice_index_or states i d).verdict; uncommitted = if i == c.from.result then true else (slice_index_or states i d).uncommitted; failures = (slice_index_or states i d).failures }) old c.open_part.ensures in
    let at : c.from.result ≡ part_of c.args.span.s = c.from.ensures ∙ c.part_of-part.ensures.value in
    let each_at = subst (λ (q : ℕ). (i : ℕ) (d : PartState) → i < length inside.states.items → slice_index_or c.open_part.new.states i d ≡ record { verdict = (slice_index_or inside.states.items i d).verdict; uncommitted = if i == q then true else (slice_index_or inside.states.items i d).uncommitted; failures = (slice_index_or inside.states.items i d).failures }) at each in
    let before = c.deref_mut.ensures.value in
    let as_many : length c.advance.new.holders ≡ length inside.holders.items = c.advance.auto.holders ∙ ap length before in
    let put = written_back inside.holders.len c.advance.new.holders inside.holders.items (sym c.deref_mut.ensures.len ∙ ap length before) as_many in
    let edit = subst (λ (xs : List Holder). Replaces xs c.advance.new.holders c.args.peer (filter is_open (map (past c.args.span) (kept_for xs c.args.peer)))) before c.advance.ensures in
    rw (put, back, c.push_reserved.ensures.items, c.push_reserved.ensures.len, c.push_reserved.ensures.capacity)
    (keeps-added _ _ _ _ _ _ _ _ _ _ _ _ _ _ _ _ _ _ c.args.calls (Write c.args.peer c.args.span)
    (record {
      keeps = c.self.invariant;
      above = subst (λ (log : List Entry). newest_calls 0 log ≤ c.args.calls) (sym (ap (λ (v : Seen). v.log) is)) c.requires.calls;
      allowed = held;
      other = refl;
    })
    refl
    (tells-write _ _ inside.filled c.add.new.self inside.fresh c.add-2.new.self inside.states.items c.open_part.new.states inside.uncommitted c.args.peer c.args.span in_part c.add.ensures.size c.add.ensures.set c.add-2.ensures.size c.add-2.ensures.set
    (alike-legal _ _ c.self.invariant.legal.events) held
    long each_at c.self.invariant.tells)
    (holders-write _ _ _ c.args.peer c.args.span edit c.self.invariant.held)
    (moved_end-behind inside.log.items c.args.calls (Write c.args.peer c.args.span) _ (ap length (c.as_slice.ensures.value ∙ c.push_reserved.ensures.items)))
    (room-write _ _ _ _ (min inside.filled.spare inside.fresh.spare) (min c.add.new.self.spare c.add-2.new.self.spare) (length inside.holders.items) (holding c.advance.new.holders) (length inside.states.items) _ c.self.invariant.tells.count
    (ap (λ (v : Seen). v.can_add) is ∙ c.requires.entry) (ap (λ (v : Seen). v.can_fill) is ∙ c.requires.room)
    (omega (arith, edit.holding, rest-le (past c.args.span) (kept_for inside.holders.items c.args.peer), holding-le inside.holders.items)) (omega (arith, c.add.ensures.spare, c.add-2.ensures.spare))))

pub returns-clause-newest : goal.returns-clause-newest
returns-clause-newest c = newest-pushed _ _ c.args.calls _ c.push_reserved.ensures.items

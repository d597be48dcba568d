use Rattle.std.proofs.Common.{◌≡◌, ℕ, ◌≤◌, ◌<◌, ◌==◌, None, if◌then◌else◌, min, List, length, slice_index_or, true, ap, sym, subst, ◌∙◌, refl, arith}
use Rattle.std.specs.FinSet.{difference}
use Rattle.byte_ranges.specs.RangeSet.{span_set}
use Rattle.part_sizes.specs.declared.span.Span.{Span}
use Rattle.part_sizes.specs.Part.{data_parts}
use Rattle.reserve_core.specs.Events.{events}
use Rattle.reserve_core.specs.Seen.{Seen, newest_calls}
use Rattle.reserve_core.specs.Verdicts.{is_failed}
use Rattle.reserve_core.specs.declared.event.Entry.{Entry}
use Rattle.reserve_core.specs.declared.event.Event.TheVariants.{Dropped}
use Rattle.reserve_core.specs.declared.part_state.PartState.{PartState}
use Rattle.reserve_core.proofs.Added.{keeps-added, moved_end-behind, newest-pushed}
use Rattle.reserve_core.proofs.Dropped.{dues-some, tells-drop, room-drop}
use Rattle.reserve_core.proofs.Lists.{written_back}
use Rattle.reserve_core.proofs.Quiet.{holders-same}
use Rattle.reserve_core.proofs.core_state.Core.open_again.Goals as goal

pub push_reserved-requires : goal.push_reserved-requires
push_reserved-requires c =
    let is = c.self.view_is in
    let exists = subst (λ (v : Seen). c.args.part < data_parts v.aim.size) (sym is) c.requires.exists in
    let failed = subst (λ (v : Seen). is_failed v.aim (events v.log) c.args.part ≡ true) (sym is) c.requires.failed in
    let room = room-drop _ _ c.args.part _ _ _ (min c.self.inside.filled.spare c.self.inside.fresh.spare) _ exists failed (omega arith) c.self.invariant.room in
    omega (arith, room.log)

pub take-requires-clause-spare : goal.take-requires-clause-spare
take-requires-clause-spare c =
    let is = c.self.view_is in
    let exists = subst (λ (v : Seen). c.args.part < data_parts v.aim.size) (sym is) c.requires.exists in
    let failed = subst (λ (v : Seen). is_failed v.aim (events v.log) c.args.part ≡ true) (sym is) c.requires.failed in
    omega (arith, dues-some c.self.inside.aim (events c.self.inside.log.items) c.args.part exists failed, c.self.invariant.room.filled)

pub take-requires-2-clause-spare : goal.take-requires-2-clause-spare
take-requires-2-clause-spare c =
    let is = c.self.view_is in
    let exists = subst (λ (v : Seen). c.args.part < data_parts v.aim.size) (sym is) c.requires.exists in
    let failed = subst (λ (v : Seen). is_failed v.aim (events v.log) c.args.part ≡ true) (sym is) c.requires.failed in
    omega (arith, dues-some c.self.inside.aim (events c.self.inside.log.items) c.args.part exists failed, c.self.invariant.room.filled)

pub invariant_of-self : goal.invariant_of-self
invariant_of-self c =
    let is = c.self.view_is in
    let inside = c.self.inside in
    let exists = subst (λ (v : Seen). c.args.part < data_parts v.aim.size) (sym is) c.requires.exists in
    let failed = subst (λ (v : Seen). is_failed v.aim (events v.log) c.args.part ≡ true) (sym is) c.requires.failed in
    let old = c.deref_mut.ensures.value in
    let long : length c.clear_part.new.states ≡ length inside.states.items = c.clear_part.auto.states ∙ ap length old in
    let back = written_back inside.states.len c.clear_part.new.states inside.states.items (sym c.deref_mut.ensures.len ∙ ap length old) long in
    let each = subst (λ (states : List PartState). (i : ℕ) (d : PartState) → i < length states → slice_index_or c.clear_part.new.states i d ≡ record { verdict = if i == c.from.result then None else (slice_index_or states i d).verdict; uncommitted = (slice_index_or states i d).uncommitted; failures = (slice_index_or states i d).failures }) old c.clear_part.ensures in
    let each_at = subst (λ (q : ℕ). (i : ℕ) (d : PartState) → i < length inside.states.items → slice_index_or c.clear_part.new.states i d ≡ record { verdict = if i == q then None else (slice_index_or inside.states.items i d).verdict; uncommitted = (slice_index_or inside.states.items i d).uncommitted; failures = (slice_index_or inside.states.items i d).failures }) c.from.ensures each in
    rw (back, c.push_reserved.ensures.items, c.push_reserved.ensures.len, c.push_reserved.ensures.capacity)
    (keeps-added _ _ _ c.take.new.self _ c.take-2.new.self _ _ _ _ _ _ _ _ _ _ _ _ c.args.calls (Dropped c.args.part)
    (record {
      keeps = c.self.invariant;
      above = subst (λ (log : List Entry). newest_calls 0 log ≤ c.args.calls) (sym (ap (λ (v : Seen). v.log) is)) c.requires.calls;
      allowed = (exists, failed);
      other = refl;
    })
    refl
    (tells-drop _ _ inside.filled c.take.new.self inside.fresh c.take-2.new.self inside.states.items c.clear_part.new.states _ c.args.part c.take.ensures.size (c.take.ensures.set ∙ ap (λ (r : Span). difference inside.filled.set (span_set r)) c.part_range-range.ensures) c.take-2.ensures.size (c.take-2.ensures.set ∙ ap (λ (r : Span). difference inside.fresh.set (span_set r)) c.part_range-range.ensures) long each_at c.self.invariant.tells)
    (holders-same _ (Dropped c.args.part) _ (record { kept = λ q. refl; still = λ q r. refl; none = refl }) c.self.invariant.held)
    (moved_end-behind inside.log.items c.args.calls (Dropped c.args.part) _ (ap length (c.as_slice.ensures.value ∙ c.push_reserved.ensures.items)))
    (room-drop _ _ c.args.part _ _ (min inside.filled.spare inside.fresh.spare) (min c.take.new.self.spare c.take-2.new.self.spare) _ exists failed (omega (arith, c.take.ensures.spare, c.take-2.ensures.spare)) c.self.invariant.room))

pub returns-clause-newest : goal.returns-clause-newest
returns-clause-newest c = newest-pushed _ _ c.args.calls _ c.push_reserved.ensures.items

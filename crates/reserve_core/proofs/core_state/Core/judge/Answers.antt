use Rattle.std.proofs.Common.{◌≡◌, ℕ, ◌≤◌, ◌<◌, ◌==◌, Option, Some, None, is_none, not, min, Bool, ◌+◌, if◌then◌else◌, List, [], length, slice_index_or, ap, sym, subst, ◌∙◌, refl, arith}
use Rattle.part_sizes.specs.Part.{data_parts}
use Rattle.reserve_core.specs.Refusals.{refusal}
use Rattle.reserve_core.specs.Events.{events}
use Rattle.reserve_core.specs.Seen.{Seen, newest_calls}
use Rattle.part_hashset.specs.Goals.{is_wanted}
use Rattle.reserve_core.specs.Verdicts.{goal as goal_of}
use Rattle.reserve_core.specs.declared.event.Entry.{Entry}
use Rattle.reserve_core.specs.declared.event.Event.TheVariants.{Verdict}
use Rattle.reserve_core.specs.declared.part_state.PartState.{PartState}
use Rattle.reserve_core.proofs.Added.{keeps-added, moved_end-behind, newest-pushed}
use Rattle.reserve_core.proofs.Events.{tells-judge, room-judge}
use Rattle.reserve_core.proofs.Judged.{ready, may_judge}
use Rattle.reserve_core.proofs.Lists.{written_back}
use Rattle.reserve_core.proofs.Quiet.{holders-same}
use Rattle.reserve_core.proofs.core_state.Core.judge.Goals as goal

pub push_reserved-requires : goal.push_reserved-requires
push_reserved-requires c =
    let inside = c.self.inside in
    let is = c.self.view_is in
    let exists = subst (λ (v : Seen). c.args.part < data_parts v.aim.size) (sym is) c.requires.exists in
    let none = ready inside.aim (events inside.log.items) c.args.part (subst (λ (v : Seen). refusal v.aim (events v.log) (Verdict c.args.part []) ≡ None) (sym is) c.requires.ready) in
    let room = room-judge _ _ c.args.part c.args.digest _ _ _ _ exists none.unjudged (ap is_none none.full) c.self.invariant.room in
    omega (arith, room.log)

pub invariant_of-self : goal.invariant_of-self
invariant_of-self c =
    let is = c.self.view_is in
    let inside = c.self.inside in
    let exists = subst (λ (v : Seen). c.args.part < data_parts v.aim.size) (sym is) c.requires.exists in
    let free = subst (λ (v : Seen). refusal v.aim (events v.log) (Verdict c.args.part []) ≡ None) (sym is) c.requires.ready in
    let none = ready inside.aim (events inside.log.items) c.args.part free in
    let old = c.deref_mut.ensures.value in
    let long : length c.judge_part.new.states ≡ length inside.states.items = c.judge_part.auto.states ∙ ap length old in
    let back = written_back inside.states.len c.judge_part.new.states inside.states.items (sym c.deref_mut.ensures.len ∙ ap length old) long in
    let failed = not c.is_wanted-failed.result in
    let each = subst (λ (states : List PartState). (i : ℕ) (d : PartState) → i < length states → slice_index_or c.judge_part.new.states i d ≡ record { verdict = if i == c.from.result then Some c.args.digest else (slice_index_or states i d).verdict; uncommitted = (slice_index_or states i d).uncommitted; failures = if i == c.from.result then (if failed then min 8 ((slice_index_or states i d).failures + 1) else (slice_index_or states i d).failures) else (slice_index_or states i d).failures }) old c.judge_part.ensures in
    let wanted : c.is_wanted-failed.result ≡ is_wanted (goal_of inside.aim (events inside.log.items) c.args.part) c.args.digest = c.is_wanted-failed.ensures ∙ ap (λ (g : Option (List ℕ)). is_wanted g c.args.digest) (c.goal.ensures ∙ sym (ap (λ (v : Seen). goal_of v.aim (events v.log) c.args.part) is)) in
    let each_at = subst (λ (b : Bool). (i : ℕ) (d : PartState) → i < length inside.states.items → slice_index_or c.judge_part.new.states i d ≡ record { verdict = if i == c.args.part then Some c.args.digest else (slice_index_or inside.states.items i d).verdict; uncommitted = (slice_index_or inside.states.items i d).uncommitted; failures = if i == c.args.part then (if not b then min 8 ((slice_index_or inside.states.items i d).failures + 1) else (slice_index_or inside.states.items i d).failures) else (slice_index_or inside.states.items i d).failures }) wanted
    (subst (λ (q : ℕ). (i : ℕ) (d : PartState) → i < length inside.states.items → slice_index_or c.judge_part.new.states i d ≡ record { verdict = if i == q then Some c.args.digest else (slice_index_or inside.states.items i d).verdict; uncommitted = (slice_index_or inside.states.items i d).uncommitted; failures = if i == q then (if failed then min 8 ((slice_index_or inside.states.items i d).failures + 1) else (slice_index_or inside.states.items i d).failures) else (slice_index_or inside.states.items i d).failures }) c.from.ensures each) in
    let may = may_judge inside.aim inside.log.items c.args.part inside.set_place c.self.invariant.set exists free in
    rw (back, c.push_reserved.ensures.items, c.push_reserved.ensures.len, c.push_reserved.ensures.capacity)
    (keeps-added _ _ _ _ _ _ _ _ _ _ _ _ _ _ _ _ _ _ c.args.calls (Verdict c.args.part c.args.digest)
    (record {
      keeps = c.self.invariant;
      above = subst (λ (log : List Entry). newest_calls 0 log ≤ c.args.calls) (sym (ap (λ (v : Seen). v.log) is)) c.requires.calls;
      allowed = may;
      other = refl;
    })
    refl
    (tells-judge _ _ _ _ inside.states.items c.judge_part.new.states _ c.args.part c.args.digest long each_at may.goal_known c.self.invariant.tells)
    (holders-same _ (Verdict c.args.part c.args.digest) _ (record { kept = λ q. refl; still = λ q r. refl; none = refl }) c.self.invariant.held)
    (c.moved_end_after-self-inside.ensures ∙ rw (wanted, moved_end-behind inside.log.items c.args.calls (Verdict c.args.part c.args.digest) (length c.as_slice.result.now) (ap length (c.as_slice.ensures.value ∙ c.push_reserved.ensures.items))) refl)
    (room-judge _ _ c.args.part c.args.digest _ _ _ _ exists none.unjudged (ap is_none none.full) c.self.invariant.room))

pub returns-clause-newest : goal.returns-clause-newest
returns-clause-newest c = newest-pushed _ _ c.args.calls _ c.push_reserved.ensures.items

use Rattle.std.proofs.Common.{◌≡◌, ℕ, ◌≤◌, ◌<◌, false, min, List, length, slice_index_or, ap, sym, subst, ◌∙◌, refl, arith}
use Rattle.reserve_core.specs.Events.{events}
use Rattle.reserve_core.specs.Filled.{is_uncommitted}
use Rattle.reserve_core.specs.Seen.{Seen, newest_calls}
use Rattle.reserve_core.specs.declared.event.Entry.{Entry}
use Rattle.reserve_core.specs.declared.event.Event.TheVariants.{Commit}
use Rattle.reserve_core.specs.declared.part_state.PartState.{PartState}
use Rattle.reserve_core.proofs.Added.{keeps-added, room-more, newest-pushed}
use Rattle.reserve_core.proofs.Events.{tells-commit}
use Rattle.reserve_core.proofs.Lists.{written_back}
use Rattle.reserve_core.proofs.HolderEdits.{holding-le}
use Rattle.reserve_core.proofs.Quiet.{holders-same, room-taken}
use Rattle.reserve_core.proofs.core_state.Core.commit.Goals as goal

pub invariant_of-self : goal.invariant_of-self
invariant_of-self c =
    let is = c.self-2.view_is in
    let kept = c.in_ok-reserve_entry.ensures in
    let inside = c.self-2.inside in
    let old = c.deref_mut.ensures.value in
    let long : length c.commit_all.new.states ≡ length inside.states.items = c.commit_all.auto.states ∙ ap length old in
    let back = written_back inside.states.len c.commit_all.new.states inside.states.items (sym c.deref_mut.ensures.len ∙ ap length old) long in
    let same : inside.log.items ≡ c.self.inside.log.items = ap (λ (v : Seen). v.log) is ∙ kept.log ∙ sym (ap (λ (v : Seen). v.log) c.self.view_is) in
    rw (back, c.push_reserved.ensures.items, c.push_reserved.ensures.len, c.push_reserved.ensures.capacity)
    (keeps-added _ _ _ _ _ _ _ _ _ _ _ _ _ _ _ _ _ _ c.args.calls Commit
    (record {
      keeps = c.self-2.invariant;
      above = subst (λ (log : List Entry). newest_calls 0 log ≤ c.args.calls) (sym (ap (λ (v : Seen). v.log) is ∙ kept.log)) c.requires;
      allowed = ap (λ (log : List Entry). is_uncommitted (events log)) same ∙ sym c.self.invariant.tells.uncommitted ∙ c.if-not-self.false;
      other = refl;
    })
    refl
    (tells-commit _ _ inside.filled inside.fresh c.clear.new.self inside.states.items c.commit_all.new.states _ long
    (subst (λ (states : List PartState). (i : ℕ) (d : PartState) → i < length states → slice_index_or c.commit_all.new.states i d ≡ record { verdict = (slice_index_or states i d).verdict; uncommitted = false; failures = (slice_index_or states i d).failures }) old c.commit_all.ensures)
    c.clear.ensures.size c.clear.ensures.set
    c.self-2.invariant.tells)
    (holders-same _ Commit _ (record { kept = λ q. refl; still = λ q r. refl; none = refl }) c.self-2.invariant.held)
    refl
    (room-more _ _ _ _ (min inside.filled.spare inside.fresh.spare) (min inside.filled.spare c.clear.new.self.spare) _ (omega (arith, c.clear.ensures.spare))
    (room-taken _ _ _ _ _ _ _ (length inside.states.items) _ c.self-2.invariant.tells.count (ap (λ (v : Seen). v.can_add) is ∙ kept.ok) (holding-le inside.holders.items))))

pub returns-clause-newest : goal.returns-clause-newest
returns-clause-newest c = newest-pushed _ _ c.args.calls _ c.push_reserved.ensures.items

use Rattle.std.proofs.Common.{◌≡◌, ◌≤◌, List, length, ap, sym, subst, ◌∙◌, refl}
use Rattle.part_hashset.specs.declared.aim.Aim.{Aim}
use Rattle.part_sizes.specs.Part.{data_parts}
use Rattle.reserve_core.specs.Seen.{Seen, newest_calls}
use Rattle.reserve_core.specs.declared.event.Entry.{Entry}
use Rattle.reserve_core.proofs.Added.{keeps-offer, newest-pushed}
use Rattle.reserve_core.proofs.core_state.Core.offer.Goals as goal

pub invariant_of-self : goal.invariant_of-self
invariant_of-self c =
    let is = c.self.view_is in
    let kept = c.in_ok-reserve_entry.ensures in
    rw (c.push_reserved.ensures.items, c.push_reserved.ensures.len, c.push_reserved.ensures.capacity)
    (keeps-offer _ _ _ _ _ _ _ _ _ _ _ _ _ _ c.args.calls c.args.peer _ c.args.bits
    (record {
      keeps = c.self.invariant;
      above = subst (λ (log : List Entry). newest_calls 0 log ≤ c.args.calls) (sym (ap (λ (v : Seen). v.log) is ∙ kept.log)) c.requires.calls;
      allowed = subst (λ (aim : Aim). length c.args.bits ≡ data_parts aim.size) (sym (ap (λ (v : Seen). v.aim) is ∙ kept.aim)) c.requires.bits;
      other = refl;
    })
    (ap length c.as_slice-place.ensures.value) c.renew.ensures.items
    (ap (λ (v : Seen). v.can_add) is ∙ kept.ok))

pub returns-clause-newest : goal.returns-clause-newest
returns-clause-newest c = newest-pushed _ _ c.args.calls _ c.push_reserved.ensures.items

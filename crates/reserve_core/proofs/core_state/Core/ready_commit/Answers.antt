use Rattle.std.proofs.Common.{◌≡◌, ◌↔◌, IsFalse, List, [], subst}
use Rattle.part_hashset.specs.declared.aim.Aim.{Aim}
use Rattle.reserve_core.specs.Events.{events}
use Rattle.reserve_core.specs.Filled.{AreUnsettled, is_uncommitted}
use Rattle.reserve_core.specs.Seen.{Seen}
use Rattle.reserve_core.specs.declared.event.Entry.{Entry}
use Rattle.reserve_core.proofs.Added.{are-unsettled}
use Rattle.reserve_core.proofs.Unsettled.{none-unsettled}
use Rattle.reserve_core.proofs.core_state.Core.ready_commit.Goals as goal
use Rattle.reserve_core.proofs.core_state.Core.ready_commit.Goals.{in-Ok, in-Err}

pub returns-clause-spans : goal.returns-clause-spans
returns-clause-spans c =
    let kept = c.in_ok-reserve_entry.ensures in
    elim c.match-spans.branch [
      | in-Ok w ↦
          let spans = w.in-Ok.spans in
          rw w.result-is
          (subst (λ (aim : Aim). AreUnsettled aim.size (events c.args.self.now.log) spans) kept.aim
          (subst (λ (log : List Entry). AreUnsettled c.reserve_entry.new.self.aim.size (events log) spans) kept.log
          (subst (λ (v : Seen). AreUnsettled v.aim.size (events v.log) spans) c.self.view_is
          (are-unsettled _ _ _ _ _ _ spans c.self.invariant.tells w.in-Ok.ensures.apart w.in-Ok.ensures.set))))
      | in-Err w ↦ rw w.result-is tt
    ]

pub returns-clause-none : goal.returns-clause-none
returns-clause-none c =
    elim c.match-spans.branch [
      | in-Ok w ↦
          let spans = w.in-Ok.spans in
          let are = are-unsettled _ _ _ _ _ _ spans c.self.invariant.tells w.in-Ok.ensures.apart w.in-Ok.ensures.set in
          rw w.result-is
          (subst (λ (log : List Entry). (spans ≡ []) ↔ IsFalse (is_uncommitted (events log))) c.in_ok-reserve_entry.ensures.log
          (subst (λ (v : Seen). (spans ≡ []) ↔ IsFalse (is_uncommitted (events v.log))) c.self.view_is
          (none-unsettled c.self.inside.aim (events c.self.inside.log.items) spans c.self.invariant.legal.events are)))
      | in-Err w ↦ rw w.result-is tt
    ]

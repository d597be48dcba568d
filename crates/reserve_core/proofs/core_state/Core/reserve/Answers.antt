use Rattle.std.proofs.Common.{List, sym, subst, ◌∙◌}
use Rattle.std.proofs.lemmas.Bool.{false≢true}
use Rattle.part_hashset.specs.declared.aim.Aim.{Aim}
use Rattle.part_sizes.specs.Part.{data_parts}
use Rattle.reserve_core.specs.Events.{events}
use Rattle.reserve_core.specs.Legal.{MayReserve}
use Rattle.reserve_core.specs.Verdicts.{is_worn}
use Rattle.reserve_core.specs.declared.event.Entry.{Entry}
use Rattle.reserve_core.proofs.Choosing.{none-passes}
use Rattle.reserve_core.proofs.core_state.Core.reserve.Goals as goal

pub hold-requires-clause-may : goal.hold-requires-clause-may
hold-requires-clause-may c =
    let aim = c.args.self.now.aim in
    let h = events c.args.self.now.log in
    let kept = c.reserve_hold.ensures in
    let may : MayReserve aim h c.args.peer c.in-Ok.both.1 = record {
      honest = sym c.is_cheat.ensures ∙ c.if-is_cheat.false;
      not_worn = none-passes (is_worn aim h) (data_parts aim.size) (sym c.first_worn.ensures ∙ c.in_default.is);
      set = sym c.lacks_set.ensures ∙ c.if-lacks_set.false;
      chosen = c.in-Ok.ensures.second;
      some = λ e. false≢true (sym c.if-is_empty.false ∙ c.is_empty.ensures.1 (c.in-Ok.ensures.first ∙ sym c.in-Ok.ensures.second ∙ e));
    } in
    subst (λ (a : Aim). MayReserve a (events c.reserve_hold.new.self.log) c.args.peer c.in-Ok.both.1) (sym kept.aim)
    (subst (λ (log : List Entry). MayReserve aim (events log) c.args.peer c.in-Ok.both.1) (sym kept.log) may)

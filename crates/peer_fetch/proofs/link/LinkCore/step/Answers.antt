use Rattle.std.proofs.Common.{◌∙◌, rules, subst}
use Rattle.part_hashset.specs.declared.aim.Aim.{Aim}
use Rattle.peer_fetch.specs.Machine.{MaySay, entered}
use Rattle.peer_fetch.specs.Moves.{outside}
use Rattle.ed2k_outside.specs.WireMembers.{members}
use Rattle.peer_fetch.proofs.link.LinkCore.step.Goals as goal

pub turns-init : goal.turns-init
turns-init g c = record {
  enters = c.enter-next.ensures.enters c.args.budget;
  lighter = search rules;
  heavy = search rules;
}

pub turns-preserved-in-Send : goal.turns-preserved-in-Send
turns-preserved-in-Send g c =
    let before = c.turns.invariant.enters in
    let core = c.args.self.now.core in
    let old = outside (members g.W.Source g.W.Sink g.W.Wire) c.args.self.now in
    let turn = c.say-next.ensures.turn c.args.budget in
    record {
      enters = record {
        moves = turn.moves (entered core.session core.at c.args.answer) old (rw c.in-Send.is at before.moves);
        aim = turn.aim ∙ before.aim;
        may = subst (λ (aim : Aim). MaySay aim c.say-next.result c.say-next.new.self.core.at) before.aim turn.may;
        free = search rules;
        offers = turn.offers ∙ before.offers;
        sees = λ count first tells sees. turn.sees count first (before.sees count first tells sees).later;
      };
      lighter = search rules;
      heavy = search rules;
    }

pub turns-preserved : goal.turns-preserved
turns-preserved g c =
    let before = c.turns.invariant.enters in
    let core = c.args.self.now.core in
    let old = outside (members g.W.Source g.W.Sink g.W.Wire) c.args.self.now in
    let turn = c.hear-next.ensures.turn in
    record {
      enters = record {
        moves = turn.moves (entered core.session core.at c.args.answer) old (rw c.in-Read.is at before.moves);
        aim = turn.aim ∙ before.aim;
        may = subst (λ (aim : Aim). MaySay aim c.hear-next.result c.hear-next.new.self.core.at) before.aim turn.may;
        free = search rules;
        offers = turn.offers ∙ before.offers;
        sees = λ count first tells sees. turn.sees count first (before.sees count first tells sees).later;
      };
      lighter = search rules;
      heavy = search rules;
    }

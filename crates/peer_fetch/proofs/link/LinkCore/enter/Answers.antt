use Rattle.std.proofs.Common.{Some, refl, rules}
use Rattle.ed2k_outside.specs.WireMembers.{members}
use Rattle.peer_fetch.specs.Machine.{on_answer}
use Rattle.peer_fetch.specs.Moves.{outside}
use Rattle.peer_fetch.specs.Moves.{SeesAfter}
use Rattle.peer_fetch.proofs.Blames.{sees_answered}
use Rattle.peer_fetch.proofs.Moves.{moves_none}
use Rattle.peer_fetch.proofs.link.LinkCore.enter.Goals as goal

pub returns-in-Some-clause-enters : goal.returns-in-Some-clause-enters
returns-in-Some-clause-enters g c budget =
    let see = outside (members g.W.Source g.W.Sink g.W.Wire) in
    let core = c.args.self.now.core in
    let plan = on_answer core.session core.at c.in-Some.answer in
    let took = c.on_answer.ensures in
    let moves = moves_none budget plan (see c.args.self.now) c.on_answer.result c.on_answer.new.self.session c.on_answer.new.self.at took.next in
    let old = see c.args.self.now in
    let at = c.args.self.now.core.at in
    let at2 = c.on_answer.new.self.at in
    let sees : SeesAfter budget (Some c.in-Some.answer) old at old at2 =
    λ count first tells sees. sees_answered budget count first old old c.in-Some.answer at at2 tells took.kept refl sees in
    record {
      moves = rw c.in-Some.is moves;
      aim = search rules;
      may = search rules;
      free = search rules;
      offers = search rules;
      sees = rw c.in-Some.is sees;
    }

pub returns-in-None-clause-enters : goal.returns-in-None-clause-enters
returns-in-None-clause-enters g c budget =
    let begins = c.begin.ensures.begins budget in
    record {
      moves = search rules;
      aim = search rules;
      may = search rules;
      free = search rules;
      offers = search rules;
      sees = search rules;
    }

use Rattle.std.proofs.Common.{rules, sym, subst}
use Rattle.ed2k_outside.specs.WireMembers.{members}
use Rattle.peer_fetch.specs.Machine.{begun, due}
use Rattle.peer_fetch.specs.Moves.{Moves, link_state, outside}
use Rattle.peer_fetch.specs.declared.machine.SessionState.{SessionState}
use Rattle.peer_fetch.proofs.Moves.{moves_unsaid}
use Rattle.peer_fetch.proofs.link.LinkCore.begin.Goals as goal

pub returns-in-Err-clause-begins : goal.returns-in-Err-clause-begins
returns-in-Err-clause-begins g c budget =
    let see = outside (members g.W.Source g.W.Sink g.W.Wire) in
    let old = see c.args.self.now in
    let session = c.args.self.now.core.session in
    record {
      moves = subst (λ (at : SessionState). Moves budget (begun (due session at)) old (link_state c.on_stop.new.self.session c.on_stop.new.self.at old) c.on_stop.result)
          (sym c.in-Err.ensures.memory.0)
          (moves_unsaid budget session c.on_stop.new.self.session old c.on_stop.result c.on_stop.new.self.at c.on_stop.ensures.next);
      aim = search rules;
      may = search rules;
      on = search rules;
      offers = search rules;
      sees = search rules;
    }

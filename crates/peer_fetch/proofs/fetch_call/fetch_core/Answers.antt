use Rattle.std.proofs.Common.{rules, ◌≡◌, ap, sym, subst}
use Rattle.ed2k_outside.specs.WireMembers.{members}
use Rattle.peer_fetch.specs.Fetches.{Called, due_now, inside_by, standing}
use Rattle.peer_fetch.specs.Machine.{is_ready}
use Rattle.peer_fetch.specs.Moves.{Outside, outside}
use Rattle.peer_fetch.specs.declared.cause.Cause.TheVariants as causes
use Rattle.peer_fetch.proofs.Blames.{untrue}
use Rattle.peer_fetch.proofs.Fetches.{called_short}
use Rattle.peer_fetch.proofs.fetch_call.fetch_core.Goals as goal

pub returns-in-Err : goal.returns-in-Err
returns-in-Err g c =
    let see = outside (members g.W.Source g.W.Sink g.W.Wire) in
    let look = inside_by g.A.DeskAccess.state in
    let desk = c.args.desk.now in
    let link = c.args.link.now in
    let core = c.run-cause.new.link.core in
    let over = c.take_offered.new.self.core in
    let from = due_now link.core.session link.core.at in
    let to = due_now core.session core.at in
    let short = called_short c.args.budget (g.A.DeskAccess.state desk).wanted (g.A.DeskAccess.state desk).peer from to (see link) (see c.run-cause.new.link) (look desk) (look c.run-cause.new.desk) c.run-cause.result c.run-cause.ensures.run.called in
    record {
      reaches = search rules;
      fetch = record {
        fetched = record {
          to = to;
          called = subst (λ (o : Outside). Called c.args.budget (g.A.DeskAccess.state desk).wanted (g.A.DeskAccess.state desk).peer (standing from (see link) (look desk)) (standing to o (look c.run-cause.new.desk)) causes.NoMemory) (sym c.take_offered.ensures.outside) short;
          offered = c.take_offered.ensures.offered;
          goes_on = λ is. untrue {P = to ≡ due_now over.session over.at} is;
        };
        ready = ap is_ready c.take_offered.ensures.over;
        number = search rules;
        asked = search rules;
        alive = search rules;
        leaves = search rules;
      };
    }

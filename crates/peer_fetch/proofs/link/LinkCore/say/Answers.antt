use Rattle.std.proofs.Common.{rules, subst}
use Rattle.ed2k_outside.specs.WireMembers.{members}
use Rattle.peer_fetch.specs.Machine.{Gives, begun, due}
use Rattle.peer_fetch.specs.Moves.{outside}
use Rattle.peer_fetch.specs.Steps.{Steps}
use Rattle.peer_fetch.specs.declared.machine.FetchCore.{FetchCore}
use Rattle.peer_fetch.proofs.Known.{if_ok}
use Rattle.peer_fetch.proofs.Moves.{moves_sends, moves_breaks}
use Rattle.peer_fetch.proofs.link.LinkCore.say.Goals as goal

pub returns-in-Ok : goal.returns-in-Ok
returns-in-Ok g c =
    let see = outside (members g.W.Source g.W.Sink g.W.Wire) in
    let same = c.send.ensures.core in
    let gives = (if_ok (Steps (begun (due c.send.new.self.core.session c.send.new.self.core.at)) 3 c.send.new.self.core c.go.new.self) c.go.result c.unwrap.result c.unwrap.ensures c.go.ensures.ok).next in
    record {
      turn = λ budget. record {
        moves = λ from first moves.
            moves_sends budget from first (see c.args.self.now) (see (record c.send.new.self { core = c.go.new.self })) c.args.msg c.unwrap.result
            c.args.self.now.core.session c.go.new.self.session c.args.self.now.core.at c.go.new.self.at
            moves c.in-Ok.ensures.holds c.in-Ok.ensures.sends
            (subst (λ (core : FetchCore). Gives (begun (due core.session core.at)) c.unwrap.result c.go.new.self.session c.go.new.self.at) same gives);
        aim = search rules;
        may = search rules;
        on = search rules;
        offers = search rules;
        sees = search rules;
        light = search rules;
        fewer = search rules;
        turns = search rules;
      };
    }

pub returns : goal.returns
returns g c =
    let see = outside (members g.W.Source g.W.Sink g.W.Wire) in
    let sends = c.in-Err.ensures.sends in
    record {
      turn = λ budget. record {
        moves = λ from first moves.
            moves_breaks budget from first (see c.args.self.now) (see (record c.send.new.self { core = c.on_stop.new.self })) c.args.msg sends.part c.in-Err.cause c.on_stop.result
            c.args.self.now.core.session c.on_stop.new.self.session c.args.self.now.core.at c.on_stop.new.self.at
            moves sends.breaks sends.front c.in-Err.ensures.holds sends.sent c.on_stop.ensures.next;
        aim = search rules;
        may = search rules;
        on = search rules;
        offers = search rules;
        sees = search rules;
        light = search rules;
        fewer = search rules;
        turns = search rules;
      };
    }

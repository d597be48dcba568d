use Rattle.std.proofs.Common.{rules, subst}
use Rattle.ed2k_outside.specs.WireMembers.{members}
use Rattle.peer_fetch.specs.Machine.{Gives}
use Rattle.peer_fetch.specs.Moves.{outside}
use Rattle.peer_fetch.specs.Table.{row}
use Rattle.peer_fetch.specs.declared.cause.Cause.TheVariants as causes
use Rattle.peer_fetch.specs.declared.machine.FetchCore.{FetchCore}
use Rattle.peer_fetch.proofs.Frames.{nothing_stands}
use Rattle.peer_fetch.proofs.Moves.{moves_takes, moves_stops}
use Rattle.peer_fetch.proofs.link.LinkCore.hear.Goals as goal

pub returns-in-Ok-on_message : goal.returns-in-Ok-on_message
returns-in-Ok-on_message g c =
    let see = outside (members g.W.Source g.W.Sink g.W.Wire) in
    record {
      turn = record {
        moves = λ from first moves.
            moves_takes c.args.budget from first (see c.args.self.now) (see (record c.receive.new.self { core = c.on_message.new.self })) c.in-Ok.msg c.in-Ok-on_message.next
            c.args.self.now.core.session c.on_message.new.self.session c.args.self.now.core.at c.on_message.new.self.at
            moves c.in-Ok.ensures.receives c.in-Ok.ensures.draws c.in-Ok.ensures.looks.sent
            (subst (λ (core : FetchCore). Gives (row core.session c.in-Ok.msg) c.in-Ok-on_message.next c.on_message.new.self.session c.on_message.new.self.at) c.receive.ensures.core c.in-Ok-on_message.ensures.ok.next);
        aim = search rules;
        may = search rules;
        on = search rules;
        offers = search rules;
        sees = search rules;
        light = search rules;
        fewer = search rules;
        turns = search rules;
      };
    }

pub returns-in-Err-on_message : goal.returns-in-Err-on_message
returns-in-Err-on_message g c =
    let see = outside (members g.W.Source g.W.Sink g.W.Wire) in
    record {
      turn = record {
        moves = λ from first moves.
            moves_stops c.args.budget from first (see c.args.self.now) (see (record c.receive.new.self { core = c.on_stop.new.self })) causes.NoMemory c.on_stop.result
            c.args.self.now.core.session c.on_stop.new.self.session c.args.self.now.core.at c.on_stop.new.self.at
            moves tt (nothing_stands (see c.args.self.now).ahead) tt c.in-Ok.ensures.looks.fewer c.in-Ok.ensures.draws c.in-Ok.ensures.looks.sent c.on_stop.ensures.next;
        aim = search rules;
        may = search rules;
        on = search rules;
        offers = search rules;
        sees = search rules;
        light = search rules;
        fewer = search rules;
        turns = search rules;
      };
    }

pub returns-in-Err : goal.returns-in-Err
returns-in-Err g c =
    let see = outside (members g.W.Source g.W.Sink g.W.Wire) in
    let stop = c.in-Err.ensures.receives in
    record {
      turn = record {
        moves = λ from first moves.
            moves_stops c.args.budget from first (see c.args.self.now) (see (record c.receive.new.self { core = c.on_stop-in-Err.new.self })) c.in-Err.cause c.on_stop-in-Err.result
            c.args.self.now.core.session c.on_stop-in-Err.new.self.session c.args.self.now.core.at c.on_stop-in-Err.new.self.at
            moves stop.stops stop.stands stop.leaves c.in-Err.ensures.looks.fewer c.in-Err.ensures.draws c.in-Err.ensures.looks.sent c.on_stop-in-Err.ensures.next;
        aim = search rules;
        may = search rules;
        on = search rules;
        offers = search rules;
        sees = search rules;
        light = search rules;
        fewer = search rules;
        turns = search rules;
      };
    }

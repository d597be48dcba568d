use Rattle.std.proofs.Common.{◌≡◌, Bool, IsFalse, refl, sym, subst, ◌∙◌, arith, rules}
use Rattle.part_hashset.specs.declared.aim.Aim.{Aim}
use Rattle.part_sizes.specs.Part.{IsSize}
use Rattle.reserve_core.specs.Desk.{IsDeskCall}
use Rattle.reserve_core.specs.Events.{events}
use Rattle.reserve_core.specs.Held.{is_holder}
use Rattle.reserve_core.specs.declared.desk.DeskAsk.TheVariants as ask
use Rattle.ed2k_outside.specs.WireMembers.{members}
use Rattle.peer_fetch.specs.Fetches.{Fetches, due_in_call, inside_by}
use Rattle.peer_fetch.specs.Machine.{IsFitting, MaySay}
use Rattle.peer_fetch.specs.Moves.{as_next, outside}
use Rattle.peer_fetch.specs.declared.link.Step.{Step}
use Rattle.peer_fetch.proofs.Blames.{end_blamed, end_ready, sees_later, sees_ready}
use Rattle.peer_fetch.proofs.Fetches.{call_ends, fetches_begun, served_more}
use Rattle.peer_fetch.proofs.Holders.{end_free, freed, not_begun}
use Rattle.peer_fetch.proofs.Picks.{served_fitting}
use Rattle.peer_fetch.proofs.fetch_call.run.Goals as goal

pub asks-init : goal.asks-init
asks-init g c =
    let see = outside (members g.W.Source g.W.Sink g.W.Wire) in
    let look = inside_by g.A.DeskAccess.state in
    let link = c.args.link.now in
    let desk = c.args.desk.now in
    let new = c.step-step.new.self in
    record {
      reaches = c.requires.reaches;
      fetches = fetches_begun c.args.budget (g.A.DeskAccess.state desk).wanted (g.A.DeskAccess.state desk).peer (due_in_call link.core.session link.core.at) (see link) (see new)
          (look desk) (as_next c.step-step.result) new.core.session new.core.at c.step-step.ensures.enters.moves c.step-step.ensures.enters.offers;
      aim = c.step-step.ensures.enters.aim ∙ c.requires.aim;
      may = subst (λ (aim : Aim). MaySay aim (as_next c.step-step.result) new.core.at) c.requires.aim c.step-step.ensures.enters.may;
      free = λ none behind. not_begun link.core.at c.requires.ready (c.step-step.ensures.enters.free behind);
      sees = c.step-step.ensures.enters.sees (g.A.DeskAccess.state desk).store_faults (see link) tt (sees_ready c.args.budget (g.A.DeskAccess.state desk).store_faults (see link) link.core.at c.requires.ready);
      wanted = refl;
      peer = refl;
      alone = refl;
      origin = refl;
      faults = omega arith;
    }

pub returns-in-End : goal.returns-in-End
returns-in-End g c =
    let see = outside (members g.W.Source g.W.Sink g.W.Wire) in
    let look = inside_by g.A.DeskAccess.state in
    let link = c.args.link.now in
    let desk = c.args.desk.now in
    let file = (g.A.DeskAccess.state desk).wanted in
    let number = (g.A.DeskAccess.state desk).peer in
    let core = c.asks.link.core in
    let count = (g.A.DeskAccess.state c.asks.desk).store_faults in
    let fetches = subst (λ (step : Step). Fetches c.args.budget file number (due_in_call link.core.session link.core.at) (see link) (see c.asks.link) (look desk) (look c.asks.desk) (as_next step) core.session core.at) c.in-End.is c.asks.invariant.fetches in
    record {
      reaches = c.asks.invariant.reaches;
      run = record {
        called = call_ends c.args.budget file number (see link) (see c.asks.link) (look desk) (look c.asks.desk) c.in-End.cause link.core.session core.session link.core.at core.at c.requires.ready fetches;
        ready = end_ready c.args.budget count fetches.end c.in-End.cause core.session core.at (see link) (see c.asks.link) fetches.gives c.asks.invariant.sees;
        leaves = record {
          aim = search rules;
          same = search rules;
          faults = search rules;
          free = λ none. c.asks.invariant.free none (end_free fetches.end c.in-End.cause core.session core.at fetches.gives);
          blame = end_blamed c.args.budget count fetches.end c.in-End.cause core.session core.at (see link) (see c.asks.link) fetches.gives c.asks.invariant.sees;
          later = search rules;
        };
      };
    }

pub step-step-requires-in-Ask : goal.step-step-requires-in-Ask
step-step-requires-in-Ask g c =
    let file = (g.A.DeskAccess.state c.args.desk.now).wanted in
    let may = subst (λ (step : Step). MaySay file (as_next step) c.asks.link.core.at) c.in-Ask.is c.asks.invariant.may in
    let here = c.asks.desk in
    let new = c.ask-answer.new.desk in
    let fits = served_fitting (g.A.DeskAccess.state here).wanted (g.A.DeskAccess.state here).peer (g.A.DeskAccess.state here).alone c.in-Ask.ask c.ask-answer.result (g.A.DeskAccess.state here).seen (g.A.DeskAccess.state new).seen (g.A.DeskAccess.state here).body (g.A.DeskAccess.state new).body
    (subst (λ (aim : Aim). IsSize aim.size) (sym c.asks.invariant.wanted) c.requires.size) c.ask-answer.ensures.asked.served in
    let (asks, asking, offers, last) = may in
    (asking, subst (λ (aim : Aim). IsFitting aim c.ask-answer.result) (c.asks.invariant.wanted ∙ sym c.asks.invariant.aim) fits)

pub asks-preserved : goal.asks-preserved
asks-preserved g c =
    let see = outside (members g.W.Source g.W.Sink g.W.Wire) in
    let look = inside_by g.A.DeskAccess.state in
    let link = c.args.link.now in
    let desk = c.args.desk.now in
    let file = (g.A.DeskAccess.state desk).wanted in
    let number = (g.A.DeskAccess.state desk).peer in
    let alone = (g.A.DeskAccess.state desk).alone in
    let mid = c.asks.link in
    let new = c.step-step-in-Ask.new.self in
    let here = c.asks.desk in
    let later = c.ask-answer.new.desk in
    let h = (g.A.DeskAccess.state here).seen in
    let h2 = (g.A.DeskAccess.state later).seen in
    let body = (g.A.DeskAccess.state here).body in
    let body2 = (g.A.DeskAccess.state later).body in
    let from = due_in_call link.core.session link.core.at in
    let answer = c.ask-answer.result in
    let count = (g.A.DeskAccess.state here).store_faults in
    let count2 = (g.A.DeskAccess.state later).store_faults in
    let fetches = subst (λ (step : Step). Fetches c.args.budget file number from (see link) (see mid) (look desk) (look here) (as_next step) mid.core.session mid.core.at) c.in-Ask.is c.asks.invariant.fetches in
    let served = subst (λ (aim : Aim). IsDeskCall aim number alone c.in-Ask.ask answer h h2 body body2) c.asks.invariant.wanted
    (subst (λ peer. IsDeskCall (g.A.DeskAccess.state here).wanted peer alone c.in-Ask.ask answer h h2 body body2) c.asks.invariant.peer
    (subst (λ (is : Bool). IsDeskCall (g.A.DeskAccess.state here).wanted (g.A.DeskAccess.state here).peer is c.in-Ask.ask answer h h2 body body2) c.asks.invariant.alone c.ask-answer.ensures.asked.served)) in
    let (asks, asking, offer, last) = subst (λ (step : Step). MaySay file (as_next step) mid.core.at) c.in-Ask.is c.asks.invariant.may in
    record {
      reaches = c.ask-answer.ensures.reaches;
      fetches = served_more c.args.budget file number from (see link) (see mid) (see new) (look desk) (look here) (look later) h h2 alone c.in-Ask.ask answer mid.core.session new.core.session mid.core.at new.core.at
          (as_next c.step-step-in-Ask.result) fetches refl refl refl served c.step-step-in-Ask.ensures.enters.moves offer c.step-step-in-Ask.ensures.enters.offers;
      aim = c.step-step-in-Ask.ensures.enters.aim ∙ c.asks.invariant.aim;
      may = subst (λ (aim : Aim). MaySay aim (as_next c.step-step-in-Ask.result) new.core.at) c.asks.invariant.aim c.step-step-in-Ask.ensures.enters.may;
      free = λ none behind.
          let before : count ≡ 0 = omega (arith, none, c.ask-answer.ensures.asked.faults) in
          let released : c.in-Ask.ask ≡ ask.Release → IsFalse (is_holder (events h2) number) = λ is.
          subst (λ n. IsFalse (is_holder (events h2) n)) c.asks.invariant.peer (c.ask-answer.ensures.asked.free is none) in
          freed file number alone c.in-Ask.ask answer h h2 body body2 mid.core.at last (c.step-step-in-Ask.ensures.enters.free behind) released (c.asks.invariant.free before) served;
      sees = c.step-step-in-Ask.ensures.enters.sees count2 (see link) c.ask-answer.ensures.asked.refusal (sees_later c.args.budget count count2 (see link) (see mid) mid.core.at c.ask-answer.ensures.asked.faults c.asks.invariant.sees);
      wanted = c.ask-answer.ensures.asked.same.wanted ∙ c.asks.invariant.wanted;
      peer = c.ask-answer.ensures.asked.same.peer ∙ c.asks.invariant.peer;
      alone = c.ask-answer.ensures.asked.same.alone ∙ c.asks.invariant.alone;
      origin = c.ask-answer.ensures.asked.same.origin ∙ c.asks.invariant.origin;
      faults = omega (arith, c.ask-answer.ensures.asked.faults, c.asks.invariant.faults);
    }

use Rattle.std.proofs.Common.{◌≡◌, ◌∙◌, ap, subst, sym, inl, inr, is_ok, false, refl, rules}
use Rattle.std.specs.List.{list_all}
use Rattle.std.proofs.lemmas.List.{length-map}
use Rattle.part_hashset.specs.declared.aim.Aim.{Aim}
use Rattle.part_store.specs.Solo.{faults_of}
use Rattle.ed2k_outside.specs.WireMembers.{members}
use Rattle.peer_fetch.specs.Fetches.{due_now, standing}
use Rattle.peer_fetch.specs.Machine.{due, is_ready}
use Rattle.peer_fetch.specs.Linked.{outside}
use Rattle.peer_fetch.proofs.Blames.{same_later}
use Rattle.peer_fetch.proofs.Within.{draws_on, draws_same}
use Rattle.reserve_core.specs.Events.{events}
use Rattle.reserve_core.specs.Legal.{IsLegal}
use Rattle.reserve_core.specs.Moved.{moved}
use Rattle.reserve_core.specs.Verdicts.{is_verified, parts}
use Rattle.reserve_core.specs.declared.event.Entry.{Entry}
use Rattle.ed2k_node.specs.Left.{HasNoFailed, IsComplete, IsSettled}
use Rattle.ed2k_node.specs.Talks.{RunsRound, inside_file}
use Rattle.ed2k_node.specs.declared.rounds.TheConstants.{BUDGET}
use Rattle.ed2k_node.proofs.Rounding.{between_after, due_all, first_served, has_given, lacks_some, later_on, none_due, ok_says, owned_on, shrinks, talks_to}
use Rattle.ed2k_node.proofs.rounds.run_rounds.Goals as goal

pub rounds-init : goal.rounds-init
rounds-init g c =
    let link = c.args.link.now in
    record {
      link = c.requires.aim;
      aim = refl;
      first = refl;
      placed = refl;
      began = refl;
      log_file = refl;
      ready = ap is_ready c.requires.fresh;
      owned = λ q other. c.requires.unowned q;
      going = inl (record {
        session = link.session;
        names = c.requires.aim;
        begins = ap (due link.session) c.requires.fresh;
        same_due = refl;
        same_outside = refl;
        same_inside = refl;
      });
      later = same_later BUDGET (outside (members g.W.Source g.W.Sink g.W.Wire) link);
      draws = draws_same (outside (members g.W.Source g.W.Sink g.W.Wire) link) (outside (members g.W.Source g.W.Sink g.W.Wire) link) refl refl refl;
    }

pub rounds-preserved : goal.rounds-preserved
rounds-preserved g c =
    let see = outside (members g.W.Source g.W.Sink g.W.Wire) in
    let look = inside_file g.V.Vault.files in
    let here = c.rounds in
    let new = c.run_round-round.new in
    let did = c.run_round-round.ensures.round in
    let met = c.run_round-round.result.end in
    let file = c.args.desk.now.file.aim in
    let same = did.leaves.aim ∙ here.invariant.aim in
    let is_next = due_all met.alive (is_ok c.run_round-round.result.settled) new.desk.file.broken (list_all (is_verified new.desk.file.aim (events new.desk.file.log)) (parts new.desk.file.aim.size))
    (moved new.desk.file.aim (events new.desk.file.log) c.run_round-round.result.from) (sym c.is_due.ensures ∙ c.if-not-is_due.false) in
    let ran = subst (λ (aim : Aim). RunsRound aim (standing (due_now here.link.session here.link.at) (see here.link) (look here.desk.file)) (standing (due_now new.link.session new.link.at) (see new.link) (look new.desk.file)) met) here.invariant.aim did.ran in
    let settled = subst (λ (aim : Aim). IsSettled aim (events new.desk.file.log)) here.invariant.aim (ok_says c.run_round-round.result.settled is_next.settled_now did.leaves.settled) in
    let whole = subst (λ (aim : Aim). HasNoFailed aim (events new.desk.file.log)) here.invariant.aim (ok_says c.run_round-round.result.settled is_next.settled_now did.reopened) in
    let legal = subst (λ (aim : Aim). IsLegal aim new.desk.file.log) here.invariant.aim did.legal in
    let lacks = subst (λ (aim : Aim). list_all (is_verified aim (events new.desk.file.log)) (parts aim.size) ≡ _) same is_next.lacks in
    record {
      link = did.wanted;
      aim = same;
      first = did.leaves.initial ∙ here.invariant.first;
      placed = did.leaves.placed ∙ here.invariant.placed;
      began = did.leaves.began ∙ here.invariant.began;
      log_file = did.leaves.log_file ∙ here.invariant.log_file;
      ready = did.ready ∙ is_next.alive_now;
      owned = owned_on file (due_now here.link.session here.link.at) (see here.link) (see new.link) (look here.desk.file) (look new.desk.file) met new.link.session new.link.at ran refl here.invariant.owned;
      going = inr (between_after file (due_now c.args.link.now.session c.args.link.now.at) (due_now here.link.session here.link.at) (see c.args.link.now) (see here.link) (see new.link)
          (look c.args.desk.now.file) (look here.desk.file) (look new.desk.file) met new.link.session new.link.at (faults_of new.desk.file.broken) here.invariant.going ran is_next.alive_now (did.ready ∙ is_next.alive_now) (did.leaves.alive.0 is_next.alive_now)
          (record { settled = settled; whole = whole; free = did.leaves.free is_next.works; incomplete = lacks_some file (events new.desk.file.log) lacks }) refl c.requires.untaken did.leaves.blame legal.events);
      later = later_on _ _ _ _ here.invariant.later did.leaves.later;
      draws = draws_on (see c.args.link.now) (see here.link) (see new.link) here.invariant.draws did.ran.fetched.called.draws;
    }

pub rounds-smaller : goal.rounds-smaller
rounds-smaller g c =
    let see = outside (members g.W.Source g.W.Sink g.W.Wire) in
    let look = inside_file g.V.Vault.files in
    let here = c.rounds in
    let new = c.run_round-round.new in
    let did = c.run_round-round.ensures.round in
    let met = c.run_round-round.result.end in
    let file = c.args.desk.now.file.aim in
    let same = did.leaves.aim ∙ here.invariant.aim in
    let is_next = due_all met.alive (is_ok c.run_round-round.result.settled) new.desk.file.broken (list_all (is_verified new.desk.file.aim (events new.desk.file.log)) (parts new.desk.file.aim.size))
    (moved new.desk.file.aim (events new.desk.file.log) c.run_round-round.result.from) (sym c.is_due.ensures ∙ c.if-not-is_due.false) in
    let ran = subst (λ (aim : Aim). RunsRound aim (standing (due_now here.link.session here.link.at) (see here.link) (look here.desk.file)) (standing (due_now new.link.session new.link.at) (see new.link) (look new.desk.file)) met) here.invariant.aim did.ran in
    let place = did.from ∙ sym (length-map here.desk.file.log (λ (entry : Entry). entry.event)) in
    shrinks file (due_now c.args.link.now.session c.args.link.now.at) (due_now here.link.session here.link.at) (see c.args.link.now) (see here.link) (see new.link)
    (look c.args.desk.now.file) (look here.desk.file) (look new.desk.file) met new.link.session new.link.at c.run_round-round.result.from here.invariant.going ran refl (did.leaves.alive.0 is_next.alive_now)
    place (subst (λ (aim : Aim). moved aim (events new.desk.file.log) c.run_round-round.result.from ≡ _) same is_next.moved_now)

pub returns-then-not-is_due : goal.returns-then-not-is_due
returns-then-not-is_due g c =
    let see = outside (members g.W.Source g.W.Sink g.W.Wire) in
    let look = inside_file g.V.Vault.files in
    let here = c.rounds in
    let new = c.run_round-round.new in
    let did = c.run_round-round.ensures.round in
    let met = c.run_round-round.result.end in
    let file = c.args.desk.now.file.aim in
    let log = new.desk.file.log in
    let same = did.leaves.aim ∙ here.invariant.aim in
    let ran = subst (λ (aim : Aim). RunsRound aim (standing (due_now here.link.session here.link.at) (see here.link) (look here.desk.file)) (standing (due_now new.link.session new.link.at) (see new.link) (look new.desk.file)) met) here.invariant.aim did.ran in
    let legal = subst (λ (aim : Aim). IsLegal aim log) here.invariant.aim did.legal in
    let place = did.from ∙ sym (length-map here.desk.file.log (λ (entry : Entry). entry.event)) in
    let moves_now = moved new.desk.file.aim (events log) c.run_round-round.result.from in
    record {
      rounds = record {
        talk =
            talks_to c.args.desk.now.file.aim (due_now c.args.link.now.session c.args.link.now.at) (due_now here.link.session here.link.at) (see c.args.link.now) (see here.link) (see new.link)
            (look c.args.desk.now.file) (look here.desk.file) (look new.desk.file) met new.link.session new.link.at here.invariant.going ran;
        due =
            λ ok works.
            let settled = subst (λ (aim : Aim). IsSettled aim (events log)) here.invariant.aim (ok_says c.run_round-round.result.settled ok did.leaves.settled) in
            let whole = subst (λ (aim : Aim). HasNoFailed aim (events log)) here.invariant.aim (ok_says c.run_round-round.result.settled ok did.reopened) in
            none_due file log met met.alive (is_ok c.run_round-round.result.settled) new.desk.file.broken (list_all (is_verified new.desk.file.aim (events log)) (parts new.desk.file.aim.size)) moves_now
            (sym c.is_due.ensures ∙ c.if-not-is_due.true) refl ok works (λ all. subst (λ (aim : Aim). IsComplete aim (events log)) same all) did.leaves.number
            (λ alive still. has_given file (due_now here.link.session here.link.at) (see here.link) (see new.link) (look here.desk.file) (look new.desk.file) met new.link.session new.link.at c.run_round-round.result.from
            ran refl here.invariant.owned legal.events settled whole (did.leaves.free works) place (did.leaves.alive.0 alive) (subst (λ (aim : Aim). moved aim (events log) c.run_round-round.result.from ≡ false) same still));
        served =
            λ bytes served. elim here.invariant.going [
              | inl begins ↦
                  let serves = first_served file (due_now c.args.link.now.session c.args.link.now.at) (due_now here.link.session here.link.at) (see c.args.link.now) (see here.link) (see new.link)
                  (look c.args.desk.now.file) (look here.desk.file) (look new.desk.file) met new.link.session new.link.at (faults_of new.desk.file.broken) begins ran refl c.requires.untaken did.leaves.blame legal.events bytes served in
                  record { body = serves.body; ends = serves.ends }
              | inr between ↦ absurd (between.unserved bytes served)
            ];
        owned = owned_on file (due_now here.link.session here.link.at) (see here.link) (see new.link) (look here.desk.file) (look new.desk.file) met new.link.session new.link.at ran refl here.invariant.owned;
        draws = draws_on (see c.args.link.now) (see here.link) (see new.link) here.invariant.draws did.ran.fetched.called.draws;
        leaves = record {
          aim = same;
          initial = search rules;
          placed = search rules;
          began = search rules;
          log_file = search rules;
          settled = search rules;
          cause = search rules;
          number = search rules;
          asked = search rules;
          alive = search rules;
          free = search rules;
          later = search rules;
          blame = search rules;
        };
      };
    }

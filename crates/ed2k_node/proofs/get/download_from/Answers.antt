use Rattle.std.proofs.Common.{rules, arith, ◌≡◌, ◌≢◌, ◌⊎◌, ◌↔◌, ◌∙◌, find, Option, None, IfSome, IsFalse, IsTrue, ap, inl, inr, sym, subst, ℕ, List, [], ◌∷◌, ◌++◌}
use Rattle.std.specs.List.{All}
use Rattle.std.proofs.lemmas.List.{append-nil}
use Rattle.ed2k_outside.specs.Nets.{Closes}
use Rattle.ed2k_outside.specs.Causes.{IfKnown, Rose}
use Rattle.part_hashset.specs.declared.aim.Aim.{Aim}
use Rattle.part_store.specs.Body.{body_of}
use Rattle.part_store.specs.Solo.{faults_of}
use Rattle.peer_fetch.specs.Fetches.{Grows, due_now, log_alone, standing}
use Rattle.peer_fetch.specs.Linked.{outside}
use Rattle.peer_fetch.specs.declared.cause.Cause.TheVariants.{WireFault}
use Rattle.peer_fetch.specs.declared.cause.Cause.TheVariants as causes
use Rattle.peer_fetch.specs.declared.peer_end.PeerEnd.{PeerEnd}
use Rattle.reserve_core.specs.Desk.{own}
use Rattle.reserve_core.specs.Events.{events}
use Rattle.reserve_core.specs.Held.{is_holder}
use Rattle.reserve_core.specs.Verdicts.{is_worn, lacks_set, parts}
use Rattle.reserve_core.specs.declared.event.Entry.{Entry}
use Rattle.reserve_core.specs.declared.event.Event.{Event}
use Rattle.ed2k_outside.specs.WireMembers.{members}
use Rattle.ed2k_node.specs.Left.{IsComplete, IsSettled}
use Rattle.ed2k_node.specs.Peers.{FailedOn, TalksOver, WithWire}
use Rattle.ed2k_node.specs.Report.{verified_count}
use Rattle.ed2k_node.specs.Rounds.{IsShort, Rounds}
use Rattle.ed2k_node.specs.Status.{rank}
use Rattle.ed2k_node.specs.Talks.{TalksTo, inside_file}
use Rattle.ed2k_node.specs.declared.status.Status.{Status}
use Rattle.ed2k_node.specs.declared.status.Status.TheVariants.{Complete, Incomplete, NoMemory, Vault}
use Rattle.ed2k_node.proofs.Codes.{net_is_not_complete}
use Rattle.ed2k_node.proofs.Ending.{Known, ended_whole, short_of, works_or}
use Rattle.ed2k_node.proofs.Meeting.{IsMade, failed_on, holds_none, met_with, serves_link, some_fault, talks_over, unbroken, unlinked_store}
use Rattle.ed2k_node.proofs.New.{new_is_not_complete}
use Rattle.ed2k_node.proofs.Reached.{connected_and_closed}
use Rattle.ed2k_node.proofs.Rounding.{one_peer}
use Rattle.ed2k_node.proofs.Turns.{owned_by}
use Rattle.ed2k_node.proofs.Settling.{new_is_settled}
use Rattle.ed2k_node.proofs.get.download_from.Goals as goal

pub returns-in-Ok-clause-verified : goal.returns-in-Ok-clause-verified
returns-in-Ok-clause-verified g c =
    c.leave.ensures.apart.verified ∙ ap (λ (aim : Aim). verified_count aim (events c.leave.result.log.items)) c.run_rounds-round.ensures.rounds.leaves.aim

pub returns-in-Ok-clause-download : goal.returns-in-Ok-clause-download
returns-in-Ok-clause-download g c = record {
  made = search rules;
  grows = subst (λ (log : List Entry). Grows (events c.args.file.log) (events log)) (sym c.leave.ensures.apart.log) c.run_rounds-round.ensures.rounds.talk.talk.grows;
  uncounted = inl (c.close.ensures.faults ∙ c.in-Ok.ensures.clean);
  placed = search rules;
  ends = record {
    log_file = search rules;
    later = search rules;
    legal = search rules;
    fits = search rules;
    settled = search rules;
    verified = search rules;
    vault = search rules;
    net = search rules;
    set = search rules;
    worn = search rules;
    in_turn =
        let did = c.run_rounds-round.ensures.rounds.leaves in
        let after = c.after_rounds-status.ensures in
        let met = c.run_rounds-round.result.end in
        let file = c.run_rounds-round.new.desk.file in
        let log = c.leave.result.log.items in
        let same = ap rank c.leave.ensures.status in
        let peers = c.leave.ensures.peers ∙ ap (λ (ps : List PeerEnd). ps ++ met ∷ []) c.requires.none in
        record {
          unfailed = λ past. c.leave.ensures.apart.works (after.works (omega (arith, past, same))).0 ∙ did.initial;
          supplied = λ past. subst (All (λ (m : PeerEnd). m.cause ≢ causes.NoMemory)) (sym peers)
              (one_peer (λ (m : PeerEnd). m.cause ≢ causes.NoMemory) met (after.works (omega (arith, past, same))).1);
          linked = λ past. subst (All (λ (m : PeerEnd). m.cause ≢ causes.NoLink)) (sym peers)
              (one_peer (λ (m : PeerEnd). m.cause ≢ causes.NoLink) met did.blame.linked);
          set_kept = λ past. subst (λ (l : List Entry). IsFalse (lacks_set c.args.file.aim.size (events l))) (sym c.leave.ensures.apart.log)
              (subst (λ (aim : Aim). IsFalse (lacks_set aim.size (events file.log))) did.aim (after.kept (omega (arith, past, same))));
          unworn = λ past. subst (λ (l : List Entry). find (is_worn c.args.file.aim (events l)) (parts c.args.file.aim.size) ≡ None) (sym c.leave.ensures.apart.log)
              (subst (λ (aim : Aim). find (is_worn aim (events file.log)) (parts aim.size) ≡ None) did.aim (after.unworn (omega (arith, past, same))));
        };
    owned =
        let met = c.run_rounds-round.result.end in
        owned_by met c.leave.result.peers.items (events c.run_rounds-round.new.desk.file.log) (events c.leave.result.log.items) c.run_rounds-round.ensures.rounds.leaves.number
        (c.leave.ensures.peers ∙ ap (λ (ps : List PeerEnd). ps ++ met ∷ []) c.requires.none) (ap events c.leave.ensures.apart.log) c.run_rounds-round.ensures.rounds.owned;
    short =
        let did = c.run_rounds-round.ensures.rounds in
        let after = c.after_rounds-status.ensures in
        let met = c.run_rounds-round.result.end in
        let file = c.run_rounds-round.new.desk.file in
        let log = c.leave.result.log.items in
        let peers = c.leave.ensures.peers ∙ ap (λ (ps : List PeerEnd). ps ++ met ∷ []) c.requires.none in
        λ is.
        let ended = sym c.leave.ensures.status ∙ is in
        let last = ap rank ended in
        let unbroken_store = after.works (omega (arith, last)) in
        let unworn = after.unworn (omega (arith, last)) in
        let supplied : c.after_rounds-status.result ≢ NoMemory = λ refused. let both : Incomplete ≡ NoMemory = sym ended ∙ refused in cc in
        let lacks : IsComplete file.aim (events file.log) → ⊥ = λ all. let both : Incomplete ≡ Complete = sym ended ∙ (after.complete supplied).1 all in cc in
        elim (works_or c.run_rounds-round.result.settled file.broken did.leaves.cause (after.settled supplied)) [
          | inl works ↦ subst (λ (ps : List PeerEnd). IsShort c.args.file.aim log ps) (sym peers)
              (subst (λ (l : List Entry). IsShort c.args.file.aim l (met ∷ [])) (sym c.leave.ensures.apart.log)
              (short_of c.args.file.aim file.log met (subst (λ (aim : Aim). IsComplete aim (events file.log) → ⊥) did.leaves.aim lacks)
              (subst (λ (aim : Aim). find (is_worn aim (events file.log)) (parts aim.size) ≡ None) did.leaves.aim unworn) unbroken_store.1 (did.due works.ok works.unbroken)))
          | inr broken ↦ absurd (unbroken file.broken broken unbroken_store.0)
        ];
    unlinked = search rules;
    due =
        let did = c.run_rounds-round.ensures.rounds in
        let met = c.run_rounds-round.result.end in
        let file = c.run_rounds-round.new.desk.file in
        let peers = c.leave.ensures.peers ∙ ap (λ (ps : List PeerEnd). ps ++ met ∷ []) c.requires.none in
        λ other _. elim (works_or c.run_rounds-round.result.settled file.broken did.leaves.cause (c.after_rounds-status.ensures.settled (λ refused. other (c.leave.ensures.status ∙ refused)))) [
          | inl works ↦ inl (subst (λ (ps : List PeerEnd). Rounds c.args.file.aim c.leave.result.log.items ps) (sym peers)
              (subst (λ (log : List Entry). Rounds c.args.file.aim log (met ∷ [])) (sym c.leave.ensures.apart.log) (did.due works.ok works.unbroken)))
          | inr broken ↦ inr (subst (λ (n : ℕ). Rose n (g.V.Vault.faults c.leave.result.vault)) did.leaves.initial (c.leave.ensures.apart.failed broken))
        ];
  };
  peer =
      let m = members g.N.Wire.Source g.N.Wire.Sink g.N.Wire.Wire in
      let aim = c.args.file.aim in
      let did = c.run_rounds-round.ensures.rounds in
      let met = c.run_rounds-round.result.end in
      let file = c.run_rounds-round.new.desk.file in
      let link = c.new-link.result in
      let last = c.run_rounds-round.new.link in
      let made : IsMade aim c.in-Ok.wire link = record {
        wired = c.new-link.ensures.wired;
        aimed = c.new-link.ensures.aimed ∙ c.aim.ensures.is;
        unoffered = c.new-link.ensures.offered;
        fresh = c.new-link.ensures.fresh;
        unread = c.new-link.ensures.unread;
        untaken = c.new-link.ensures.taken;
      } in
      let same = ap events (sym c.leave.ensures.apart.log) in
      let talks = subst (λ (h : List Event). TalksTo aim (standing (due_now link.session link.at) (outside m link) (log_alone (events c.args.file.log))) (outside m last) h met) same did.talk in
      let over = talks_over m aim (events c.args.file.log) (events c.leave.result.log.items) met (faults_of file.broken) c.in-Ok.wire link last made talks did.leaves.blame did.leaves.later did.draws in
      record {
        met = met;
        only = c.leave.ensures.peers ∙ ap (λ (ps : List PeerEnd). ps ++ met ∷ []) c.requires.none;
        linked = inr (record {
          linked = record { number = did.leaves.number; cause = did.leaves.blame.linked; asked = did.leaves.asked; alive = did.leaves.alive };
          talks = met_with (TalksOver m aim (events c.args.file.log) (events c.leave.result.log.items) met) c.args.from c.in-Ok.wire last.wire
              (g.N.Net.told c.args.net.now) (g.N.Net.told c.connect.new.self) (g.N.Net.told c.close.new.self) (g.met.N.Net.handed_first c.args.net.now) c.in-Ok.ensures.told (subst (λ (w : _). IfKnown (Closes w) (g.N.Net.told c.connect.new.self) (g.N.Net.told c.close.new.self)) c.into_wire.ensures c.close.ensures.told) over;
        });
        stored = λ is. subst (λ (n : ℕ). Rose n (g.V.Vault.faults c.leave.result.vault)) did.leaves.initial (c.leave.ensures.apart.failed (some_fault file.broken (did.leaves.blame.store is)));
        free = holds_none met.number (events file.log) (events c.leave.result.log.items) file.broken did.leaves.number (ap events c.leave.ensures.apart.log) did.leaves.free
            (λ broken. subst (λ (n : ℕ). Rose n (g.V.Vault.faults c.leave.result.vault)) did.leaves.initial (c.leave.ensures.apart.failed broken));
      };
  reached = λ _.
      connected_and_closed _ _ _ _ _ _ (g.met.N.Net.handed_first c.args.net.now) c.in-Ok.ensures.told c.close.ensures.told;
  given_back =
      inr (connected_and_closed _ _ _ _ _ _ (g.met.N.Net.handed_first c.args.net.now) c.in-Ok.ensures.told c.close.ensures.told);
  served =
      let m = members g.N.Wire.Source g.N.Wire.Sink g.N.Wire.Wire in
      let did = c.run_rounds-round.ensures.rounds in
      let after = c.after_rounds-status.ensures in
      let met = c.run_rounds-round.result.end in
      let file = c.run_rounds-round.new.desk.file in
      let link = c.new-link.result in
      let last = c.run_rounds-round.new.link in
      let made : IsMade c.args.file.aim c.in-Ok.wire link = record {
        wired = c.new-link.ensures.wired;
        aimed = c.new-link.ensures.aimed ∙ c.aim.ensures.is;
        unoffered = c.new-link.ensures.offered;
        fresh = c.new-link.ensures.fresh;
        unread = c.new-link.ensures.unread;
        untaken = c.new-link.ensures.taken;
      } in
      let first_failed = subst (λ (n : ℕ). IsTrue file.broken → Rose n (g.V.Vault.faults c.leave.result.vault)) did.leaves.initial c.leave.ensures.apart.failed in
      let failed = FailedOn m in
      let failing = Rose (g.V.Vault.faults c.args.file.initial) (g.V.Vault.faults c.leave.result.vault) ⊎ Rose (g.N.Net.net_faults c.args.net.now) (g.N.Net.net_faults c.close.new.self)
      ⊎ IfKnown (WithWire failed) (g.N.Net.told c.args.net.now) (g.N.Net.told c.close.new.self) in
      let on_wire : met.cause ≡ WireFault → FailedOn m c.in-Ok.wire last.wire = λ is.
      failed_on m c.args.file.aim met c.in-Ok.wire link last (faults_of file.broken) made did.leaves.blame is in
      λ bytes serves.
      let ends = did.served bytes (serves_link m c.args.file.aim bytes (inside_file g.V.Vault.files c.args.file) c.args.from c.in-Ok.wire
      (g.N.Net.told c.args.net.now) (g.N.Net.told c.connect.new.self) link serves c.in-Ok.ensures.told made) in
      let known : Known c.args.file.aim file.log bytes met.cause c.leave.result.status file.broken failing (g.V.Vault.files c.leave.result.vault) = record {
        complete = λ other. subst (λ (status : Status). (status ≡ Complete) ↔ IsComplete c.args.file.aim (events file.log)) (sym c.leave.ensures.status)
            (subst (λ (aim : Aim). (c.after_rounds-status.result ≡ Complete) ↔ IsComplete aim (events file.log)) did.leaves.aim (after.complete (λ refused. other (c.leave.ensures.status ∙ refused))));
        stopped = λ is. subst (λ (status : Status). (status ≡ NoMemory) ⊎ (status ≡ Complete) ⊎ (status ≡ Vault)) (sym c.leave.ensures.status) (after.stopped is);
        vault = λ is. after.vault (sym c.leave.ensures.status ∙ is);
        breaks = λ broken. inl (first_failed broken);
        wire = λ is. inr (inr (met_with failed c.args.from c.in-Ok.wire last.wire (g.N.Net.told c.args.net.now) (g.N.Net.told c.connect.new.self) (g.N.Net.told c.close.new.self)
            (g.met.N.Net.handed_first c.args.net.now) c.in-Ok.ensures.told (subst (λ (w : _). IfKnown (Closes w) (g.N.Net.told c.connect.new.self) (g.N.Net.told c.close.new.self)) c.into_wire.ensures c.close.ensures.told) (on_wire is)));
        store = λ is. inl (first_failed (some_fault file.broken (did.leaves.blame.store is)));
        body = λ all. ap (λ (v : _). body_of (g.V.Vault.files v)) c.leave.ensures.apart.vault ∙ ends.body all;
      } in
      ended_whole c.args.file.aim file.log bytes met.cause c.leave.result.status file.broken failing (g.V.Vault.files c.leave.result.vault) known ends.ends;
}

pub returns-in-Err-clause-download : goal.returns-in-Err-clause-download
returns-in-Err-clause-download g c = record {
  made = search rules;
  grows = subst (λ (log : List Entry). Grows (events c.args.file.log) (events log)) (sym c.leave-in-Err.ensures.apart.log) ([], sym (append-nil (events c.args.file.log)));
  uncounted = inr (c.no_link.result, c.leave-in-Err.ensures.peers ∙ ap (λ (ps : List PeerEnd). ps ++ c.no_link.result ∷ []) c.requires.none, c.no_link.ensures);
  placed = search rules;
  ends = record {
    log_file = search rules;
    later = search rules;
    legal = search rules;
    fits = search rules;
    settled =
        let aim = c.args.file.aim in
        λ _. inl (subst (λ (log : List Entry). IsSettled aim (events log)) (sym c.leave-in-Err.ensures.apart.log) (new_is_settled aim (events c.args.file.log) c.requires.new));
    verified =
        let aim = c.args.file.aim in
        λ _. (
          λ is. absurd (net_is_not_complete _ c.leave-in-Err.ensures.status is),
          λ all. absurd (new_is_not_complete aim c.args.file.log c.requires.size c.requires.new
              (subst (λ (log : List Entry). IsComplete aim (events log)) c.leave-in-Err.ensures.apart.log all.1)),
        );
    vault = search rules;
    net = search rules;
    set = search rules;
    worn = search rules;
    in_turn =
        let same = ap rank c.leave-in-Err.ensures.status in
        let peers = c.leave-in-Err.ensures.peers ∙ ap (λ (ps : List PeerEnd). ps ++ c.no_link.result ∷ []) c.requires.none in
        record {
          unfailed = λ past. ap g.V.Vault.faults c.leave-in-Err.ensures.apart.vault ∙ c.requires.clean;
          supplied = λ past. subst (All (λ (m : PeerEnd). m.cause ≢ causes.NoMemory)) (sym peers)
              (one_peer (λ (m : PeerEnd). m.cause ≢ causes.NoMemory) c.no_link.result (λ is. let both : causes.NoLink ≡ causes.NoMemory = sym c.no_link.ensures.cause ∙ is in cc));
          linked = λ past. absurd (omega (arith, past, same));
          set_kept = λ past. absurd (omega (arith, past, same));
          unworn = λ past. absurd (omega (arith, past, same));
        };
    owned = λ p others. ap (λ (log : List Entry). own (events log) p) c.leave-in-Err.ensures.apart.log ∙ c.requires.new.unowned p;
    short = search rules;
    unlinked = search rules;
    due = search rules;
  };
  peer =
      record {
        met = c.no_link.result;
        only = c.leave-in-Err.ensures.peers ∙ ap (λ (ps : List PeerEnd). ps ++ c.no_link.result ∷ []) c.requires.none;
        linked = inl (record { unlinked = c.no_link.ensures; refused = c.in-Err.ensures.cause.failed; still = c.in-Err.ensures.told });
        stored = λ is. unlinked_store c.no_link.result c.no_link.ensures is;
        free = inl (subst (λ (n : Option ℕ). IfSome n (λ p. IsFalse (is_holder (events c.leave-in-Err.result.log.items) p))) (sym c.no_link.ensures.number) tt);
      };
  reached = search rules;
  given_back = search rules;
  served = search rules;
}

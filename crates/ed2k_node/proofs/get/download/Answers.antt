use Rattle.std.proofs.Common.{rules, refl, ◌≡◌, ◌⊎◌, ◌↔◌, ◌∙◌, List, [], ◌∷◌, find, None, IsFalse, ap, inl, inr, sym, subst, ◌≤◌, length, arith}
use Rattle.ed2k_node.proofs.Whole.{fits_new}
use Rattle.part_store.specs.Body.{BodyFits, body_of}
use Rattle.ed2k_outside.specs.Causes.{IfKnown, Rose}
use Rattle.ed2k_outside.specs.Files.{Files}
use Rattle.part_hashset.specs.declared.aim.Aim.{Aim}
use Rattle.peer_fetch.specs.Fetches.{Grows}
use Rattle.peer_fetch.specs.Serves.{nothing}
use Rattle.reserve_core.specs.Desk.{own}
use Rattle.reserve_core.specs.Events.{events}
use Rattle.ed2k_outside.specs.WireMembers.{members}
use Rattle.ed2k_node.specs.Download.{around, left_by}
use Rattle.reserve_core.specs.Verdicts.{is_worn, lacks_set, parts}
use Rattle.reserve_core.specs.declared.event.Entry.{Entry}
use Rattle.reserve_core.specs.declared.event.Event.{Event}
use Rattle.reserve_core.specs.declared.event.Event.TheVariants.{Opened}
use Rattle.ed2k_node.specs.Left.{IsComplete, IsDone}
use Rattle.ed2k_node.specs.Link.{opened_log}
use Rattle.ed2k_node.specs.Peers.{FailedOn, WithWire}
use Rattle.ed2k_node.specs.Report.{verified_count}
use Rattle.ed2k_node.specs.Rounds.{Rounds}
use Rattle.ed2k_node.specs.declared.status.Status.TheVariants.{Complete, NoMemory, Vault}
use Rattle.ed2k_node.proofs.Meeting.{file_to_peer, peer_as, rose_later, whole_as}
use Rattle.ed2k_node.proofs.ReportLemmas.{none_verified}
use Rattle.ed2k_node.proofs.Turns.{early_in_turn, grows_on, opened_begins}
use Rattle.ed2k_node.proofs.get.download.Goals as goal

pub returns-in_default : goal.returns-in_default
returns-in_default g c = record {
  download = search rules;
  verified = c.without_store.ensures.verified ∙ sym (none_verified c.args.aim c.without_store.result.log.items c.without_store.ensures.log);
  untried = search rules;
}

pub returns-in-Err-default-Fault : goal.returns-in-Err-default-Fault
returns-in-Err-default-Fault g c =
    let left = c.without_store-in-Err-default-Fault in
    record {
      download = search rules;
      verified = left.ensures.verified ∙ sym (none_verified c.args.aim left.result.log.items left.ensures.log);
      untried = search rules;
    }

pub returns : goal.returns
returns g c =
    let left = c.without_store-in-Err-default-NoMemory in
    record {
      download = search rules;
      verified = left.ensures.verified ∙ sym (none_verified c.args.aim left.result.log.items left.ensures.log);
      untried = search rules;
    }

pub download_from-requires-clause-new : goal.download_from-requires-clause-new
download_from-requires-clause-new g c = c.take_set.ensures.new

pub returns-in-Ok-take_set : goal.returns-in-Ok-take_set
returns-in-Ok-take_set g c = record {
  download = record {
    unmade = search rules;
    opened =
        let opened = c.in-Ok-take_set.ensures.opened ∙ ap (λ (aim : Aim). opened_log aim c.args.set) c.in-Ok-make_store.ensures.aim in
        let grows = subst (λ (h : List Event). Grows h (events c.download_from.result.log.items)) opened c.download_from.ensures.download.grows in
        λ made. record {
          begins = grows_on (Opened nothing ∷ []) (opened_log c.args.aim c.args.set) (events c.download_from.result.log.items) (opened_begins c.args.aim c.args.set) grows;
          tried = λ some. grows;
        };
    uncounted = search rules;
    placed = search rules;
    kept = search rules;
    ends = record {
      log_file = search rules;
      later = search rules;
      legal = search rules;
      fits =
          let same : c.take_set.new.file.aim ≡ c.args.aim = c.in-Ok-take_set.ensures.aim ∙ c.in-Ok-make_store.ensures.aim in
          let opened = c.in-Ok-take_set.ensures.opened ∙ ap (λ (aim : Aim). opened_log aim c.args.set) c.in-Ok-make_store.ensures.aim in
          let grows = subst (λ (h : List Event). Grows h (events c.download_from.result.log.items)) opened c.download_from.ensures.download.grows in
          let begins = grows_on (Opened nothing ∷ []) (opened_log c.args.aim c.args.set) (events c.download_from.result.log.items) (opened_begins c.args.aim c.args.set) grows in
          λ made. fits_new c.args.aim c.download_from.result.log.items (body_of (g.V.Vault.files c.take_set.new.file.initial)) (body_of (g.V.Vault.files c.args.vault)) (g.V.Vault.files c.download_from.result.vault) begins
          (subst (λ (aim : Aim). BodyFits aim c.download_from.result.log.items (body_of (g.V.Vault.files c.take_set.new.file.initial)) (g.V.Vault.files c.download_from.result.vault)) same (c.download_from.ensures.download.ends.fits made));
      settled = search rules;
      verified =
          λ other.
          let same : c.take_set.new.file.aim ≡ c.args.aim = c.in-Ok-take_set.ensures.aim ∙ c.in-Ok-make_store.ensures.aim in
          subst (λ (aim : Aim). (c.download_from.result.status ≡ Complete) ↔ IsDone aim c.download_from.result.log.items) same (c.download_from.ensures.download.ends.verified other);
      vault = search rules;
      net = search rules;
      set = search rules;
      worn = search rules;
      in_turn =
          let same : c.take_set.new.file.aim ≡ c.args.aim = c.in-Ok-take_set.ensures.aim ∙ c.in-Ok-make_store.ensures.aim in
          let turn = c.download_from.ensures.download.ends.in_turn in
          let log = c.download_from.result.log.items in
          record {
            unfailed = λ past. turn.unfailed past ∙ (ap g.V.Vault.faults c.in-Ok-take_set.ensures.initial ∙ c.in-Ok-make_store.ensures.clean);
            supplied = turn.supplied;
            linked = turn.linked;
            set_kept = λ past. subst (λ (aim : Aim). IsFalse (lacks_set aim.size (events log))) same (turn.set_kept past);
            unworn = λ past. subst (λ (aim : Aim). find (is_worn aim (events log)) (parts aim.size) ≡ None) same (turn.unworn past);
          };
      owned = search rules;
      short = search rules;
      unlinked = search rules;
      due =
          let same : c.take_set.new.file.aim ≡ c.args.aim = c.in-Ok-take_set.ensures.aim ∙ c.in-Ok-make_store.ensures.aim in
          let later : g.V.Vault.faults c.args.vault ≤ g.V.Vault.faults c.take_set.new.file.initial = omega (arith, c.in-Ok-make_store.ensures.later, ap g.V.Vault.faults c.in-Ok-take_set.ensures.initial) in
          λ other made. elim (c.download_from.ensures.download.ends.due other made) [
            | inl due ↦ inl (subst (λ (aim : Aim). Rounds aim c.download_from.result.log.items c.download_from.result.peers.items) same due)
            | inr rose ↦ inr (rose_later (g.V.Vault.faults c.args.vault) (g.V.Vault.faults c.take_set.new.file.initial) (g.V.Vault.faults c.download_from.result.vault) later rose)
          ];
    };
    peer =
        let same : c.take_set.new.file.aim ≡ c.args.aim = c.in-Ok-take_set.ensures.aim ∙ c.in-Ok-make_store.ensures.aim in
        let opened = c.in-Ok-take_set.ensures.opened ∙ ap (λ (aim : Aim). opened_log aim c.args.set) c.in-Ok-make_store.ensures.aim in
        let later : g.V.Vault.faults c.args.vault ≤ g.V.Vault.faults c.take_set.new.file.initial = omega (arith, c.in-Ok-make_store.ensures.later, ap g.V.Vault.faults c.in-Ok-take_set.ensures.initial) in
        let did = left_by g.N.Net g.V.Vault c.args.net.now c.take_set.new.file.initial c.download_from.new.net c.download_from.result in
        λ made. inr (peer_as (members g.N.Wire.Source g.N.Wire.Sink g.N.Wire.Wire) c.take_set.new.file.aim c.args.aim (events c.take_set.new.file.log) (opened_log c.args.aim c.args.set)
        did (around g.N.Net g.V.Vault c.args.net.now c.args.vault) same opened refl refl later c.download_from.ensures.download.peer);
    reached = search rules;
    given_back = search rules;
    served =
        let same : c.take_set.new.file.aim ≡ c.args.aim = c.in-Ok-take_set.ensures.aim ∙ c.in-Ok-make_store.ensures.aim in
        let opened = c.in-Ok-take_set.ensures.opened ∙ ap (λ (aim : Aim). opened_log aim c.args.set) c.in-Ok-make_store.ensures.aim in
        let later : g.V.Vault.faults c.args.vault ≤ g.V.Vault.faults c.take_set.new.file.initial = omega (arith, c.in-Ok-make_store.ensures.later, ap g.V.Vault.faults c.in-Ok-take_set.ensures.initial) in
        let body = subst (λ (f : _). IfKnown (λ (before now : Files). length now.body ≡ c.args.aim.size) (g.V.Vault.files c.args.vault) f) (sym c.in-Ok-take_set.ensures.files) c.in-Ok-make_store.ensures.body in
        let wires = IfKnown (WithWire (FailedOn (members g.N.Wire.Source g.N.Wire.Sink g.N.Wire.Wire))) (g.N.Net.told c.args.net.now) (g.N.Net.told c.download_from.new.net) in
        let nets = Rose (g.N.Net.net_faults c.args.net.now) (g.N.Net.net_faults c.download_from.new.net) in
        λ bytes serves. whole_as bytes (c.download_from.result.status ≡ Complete) (c.download_from.result.status ≡ Complete) (c.download_from.result.status ≡ NoMemory) (c.download_from.result.status ≡ NoMemory)
        (Rose (g.V.Vault.faults c.take_set.new.file.initial) (g.V.Vault.faults c.download_from.result.vault) ⊎ nets ⊎ wires) (Rose (g.V.Vault.faults c.args.vault) (g.V.Vault.faults c.download_from.result.vault) ⊎ nets ⊎ wires)
        (g.V.Vault.files c.download_from.result.vault) (λ is. inl is) (λ is. is)
        (λ failed. elim failed [
          | inl rose ↦ inl (rose_later (g.V.Vault.faults c.args.vault) (g.V.Vault.faults c.take_set.new.file.initial) (g.V.Vault.faults c.download_from.result.vault) later rose)
          | inr other ↦ inr other
        ])
        (c.download_from.ensures.download.served bytes (file_to_peer (members g.N.Wire.Source g.N.Wire.Sink g.N.Wire.Wire) c.take_set.new.file.aim c.args.aim c.args.set bytes (g.V.Vault.files c.args.vault) (g.V.Vault.files c.take_set.new.file.vault) (g.N.Net.told c.args.net.now) (events c.take_set.new.file.log) same opened body serves));
  };
  verified = c.download_from.ensures.verified
      ∙ ap (λ (aim : Aim). verified_count aim (events c.download_from.result.log.items)) (c.in-Ok-take_set.ensures.aim ∙ c.in-Ok-make_store.ensures.aim);
  untried = search rules;
}

pub returns-in-Ok-make_store : goal.returns-in-Ok-make_store
returns-in-Ok-make_store g c = record {
  download = record {
    unmade = search rules;
    opened =
        let log = ap events c.give_up.ensures.apart.log ∙ (c.in-Err.ensures.stays ∙ c.in-Ok-make_store.ensures.opened) in
        λ made. record {
          begins = subst (Grows (Opened nothing ∷ [])) (sym log) ([], refl);
          tried = λ some. absurd (some c.give_up.ensures.nobody);
        };
    uncounted = search rules;
    placed = search rules;
    kept = search rules;
    ends = record {
      log_file = search rules;
      later = search rules;
      legal = search rules;
      fits =
          let same : c.take_set.new.file.aim ≡ c.args.aim = c.in-Err.ensures.aim ∙ c.in-Ok-make_store.ensures.aim in
          let log = ap events c.give_up.ensures.apart.log ∙ (c.in-Err.ensures.stays ∙ c.in-Ok-make_store.ensures.opened) in
          λ made. fits_new c.args.aim c.give_up.result.log.items (body_of (g.V.Vault.files c.take_set.new.file.initial)) (body_of (g.V.Vault.files c.args.vault)) (g.V.Vault.files c.give_up.result.vault) (subst (Grows (Opened nothing ∷ [])) (sym log) ([], refl))
          (subst (λ (aim : Aim). BodyFits aim c.give_up.result.log.items (body_of (g.V.Vault.files c.take_set.new.file.initial)) (g.V.Vault.files c.give_up.result.vault)) same c.give_up.ensures.apart.fits);
      settled = search rules;
      verified =
          let same : c.take_set.new.file.aim ≡ c.args.aim = c.in-Err.ensures.aim ∙ c.in-Ok-make_store.ensures.aim in
          let lacks = subst (λ (aim : Aim). IsComplete aim (events c.give_up.result.log.items) → ⊥) same c.give_up.ensures.lacks in
          λ other. elim c.give_up.ensures.status [
            | inl refused ↦ absurd (other refused)
            | inr failed ↦ (λ is. let both : Vault ≡ Complete = sym failed.0 ∙ is in cc, λ done. absurd (lacks done.1))
          ];
      vault = search rules;
      net = search rules;
      set = search rules;
      worn = search rules;
      in_turn = early_in_turn _ _ (search rules);
      owned = λ p others. ap (λ (log : List Entry). own (events log) p) c.give_up.ensures.apart.log ∙ c.take_set.ensures.new.unowned p;
      short = search rules;
      unlinked = search rules;
      due = search rules;
    };
    peer = λ made. inl (search rules);
    reached = search rules;
    given_back = search rules;
    served = search rules;
  };
  verified = c.give_up.ensures.apart.verified
      ∙ ap (λ (aim : Aim). verified_count aim (events c.give_up.result.log.items)) (c.in-Err.ensures.aim ∙ c.in-Ok-make_store.ensures.aim);
  untried = search rules;
}

use Rattle.std.proofs.Common.{◌≡◌, IsTrue}
use Rattle.part_store.specs.Body.{body_of, log_of}
use Rattle.ed2k_outside.specs.WireMembers.{members}
use Rattle.peer_fetch.specs.Fetches.{due_now}
use Rattle.peer_fetch.specs.Machine.{is_ready}
use Rattle.peer_fetch.specs.Linked.{outside}
use Rattle.peer_fetch.specs.Moves.{Draws, Later, bytes_to_come}
use Rattle.peer_fetch.proofs.Pauses.{IsOwnLog}
use Rattle.reserve_core.specs.Events.{events}
use Rattle.ed2k_node.specs.Talks.{inside_file}
use Rattle.ed2k_node.specs.declared.rounds.TheConstants.{BUDGET}
use Rattle.ed2k_node.proofs.Rounding.{Going}
use Rattle.ed2k_node.proofs.rounds.run_rounds.Given as goal

abbrev pub invariant-rounds : goal.invariant-rounds
invariant-rounds g l =
    let see = outside (members g.W.Source g.W.Sink g.W.Wire) in
    let look = inside_file g.V.Vault.files in
    record {
      link : l.link.session.aim ≡ l.desk.file.aim;
      aim : l.desk.file.aim ≡ l.fn.desk.file.aim;
      first : g.V.Vault.faults l.desk.file.initial ≡ g.V.Vault.faults l.fn.desk.file.initial;
      placed : g.V.Vault.placed l.desk.file.initial ≡ g.V.Vault.placed l.fn.desk.file.initial;
      began : body_of (g.V.Vault.files l.desk.file.initial) ≡ body_of (g.V.Vault.files l.fn.desk.file.initial);
      log_file : log_of (g.V.Vault.files l.desk.file.initial) ≡ log_of (g.V.Vault.files l.fn.desk.file.initial);
      ready : IsTrue (is_ready l.link.at);
      owned : IsOwnLog 0 (events l.desk.file.log);
      going : Going l.fn.desk.file.aim (due_now l.fn.link.session l.fn.link.at) (due_now l.link.session l.link.at) (see l.fn.link) (see l.link) (look l.fn.desk.file) (look l.desk.file);
      later : Later BUDGET (see l.fn.link) (see l.link);
      draws : Draws (see l.fn.link) (see l.link);
    }

abbrev pub decreases-rounds : goal.decreases-rounds
decreases-rounds g l =
    let see = outside (members g.W.Source g.W.Sink g.W.Wire) in
    bytes_to_come BUDGET (see l.link)

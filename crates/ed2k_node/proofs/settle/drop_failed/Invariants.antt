use Rattle.std.proofs.Common.{◌≡◌, ◌<◌, ◌≤◌, ℕ, IsFalse, IsTrue}
use Rattle.part_store.specs.Calls.{IsSame}
use Rattle.reserve_core.specs.Events.{events}
use Rattle.reserve_core.specs.Verdicts.{is_failed}
use Rattle.ed2k_node.specs.Left.{GoesOn, HasNoFailed, IsSettled}
use Rattle.ed2k_node.proofs.settle.drop_failed.Given as goal

abbrev pub invariant-loop-part : goal.invariant-loop-part
invariant-loop-part g l = record {
  same : IsSame l.fn.file l.file;
  files : g.V.Vault.files l.file.vault ≡ g.V.Vault.files l.fn.file.vault;
  goes_on : GoesOn (events l.fn.file.log) (events l.file.log);
  reopened : (i : ℕ) → i < l.part → IsFalse (is_failed l.fn.file.aim (events l.file.log) i);
  still : HasNoFailed l.fn.file.aim (events l.fn.file.log) → l.file.log ≡ l.fn.file.log;
  settled : IsSettled l.fn.file.aim (events l.fn.file.log) → IsSettled l.fn.file.aim (events l.file.log);
  later : g.V.Vault.faults l.fn.file.vault ≤ g.V.Vault.faults l.file.vault;
  broken : IsTrue l.fn.file.broken → IsTrue l.file.broken;
}

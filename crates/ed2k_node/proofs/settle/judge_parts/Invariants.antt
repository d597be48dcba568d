use Rattle.std.proofs.Common.{◌≡◌, ◌<◌, ◌≤◌, ℕ, IsFalse, IsTrue}
use Rattle.part_sizes.specs.Part.{data_parts}
use Rattle.part_store.specs.Calls.{IsSame}
use Rattle.reserve_core.specs.Events.{events}
use Rattle.reserve_core.specs.Filled.{is_uncommitted}
use Rattle.ed2k_node.specs.Left.{GoesOn, IsJudged}
use Rattle.ed2k_node.proofs.settle.judge_parts.Given as goal

abbrev pub invariant-loop-part : goal.invariant-loop-part
invariant-loop-part g l = record {
  same : IsSame l.fn.file l.file;
  files : g.V.Vault.files l.file.vault ≡ g.V.Vault.files l.fn.file.vault;
  goes_on : GoesOn (events l.fn.file.log) (events l.file.log);
  judged : (i : ℕ) → i < l.part → IsJudged l.fn.file.aim (events l.file.log) i;
  still : ((i : ℕ) → i < data_parts l.fn.file.aim.size → IsJudged l.fn.file.aim (events l.fn.file.log) i) → l.file.log ≡ l.fn.file.log;
  committed : IsFalse (is_uncommitted (events l.file.log));
  later : g.V.Vault.faults l.fn.file.vault ≤ g.V.Vault.faults l.file.vault;
  broken : IsTrue l.fn.file.broken → IsTrue l.file.broken;
}

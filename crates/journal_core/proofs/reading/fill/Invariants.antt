use Rattle.std.proofs.Common.{◌≡◌, ◌-◌, ◌≤◌, length, take, drop, IfSome}
use Rattle.journal_core.specs.Looks.{OnlyLooks}
use Rattle.journal_core.proofs.reading.fill.Given as goal

abbrev pub invariant-filling : goal.invariant-filling
invariant-filling g l = record {
  within : l.filled ≤ length l.buffer;
  long : length l.buffer ≡ length l.fn.buffer;
  content : IfSome (g.V.Vault.files l.fn.vault) (λ f. take l.filled l.buffer ≡ take l.filled (drop l.at f.log));
  looks : OnlyLooks g.V.Vault l.fn.vault l.vault;
  later : g.V.Vault.faults l.fn.vault ≤ g.V.Vault.faults l.vault;
  clean : g.V.Vault.faults l.vault ≡ g.V.Vault.faults l.fn.vault;
}

abbrev pub decreases-filling : goal.decreases-filling
decreases-filling g l = length l.fn.buffer - l.filled

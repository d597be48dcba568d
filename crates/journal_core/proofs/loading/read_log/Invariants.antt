use Rattle.std.proofs.Common.{◌≡◌, ◌-◌, ◌≤◌, length, take, IfSome}
use Rattle.journal_core.specs.Looks.{OnlyLooks}
use Rattle.journal_core.proofs.loading.read_log.Given as goal

abbrev pub invariant-reading : goal.invariant-reading
invariant-reading g l = record {
  within : l.at ≤ l.len;
  len : IfSome (g.V.Vault.files l.fn.vault) (λ f. l.len ≡ length f.log);
  bytes : IfSome (g.V.Vault.files l.fn.vault) (λ f. l.log.items ≡ take l.at f.log);
  looks : OnlyLooks g.V.Vault l.fn.vault l.vault;
  clean : g.V.Vault.faults l.vault ≡ g.V.Vault.faults l.fn.vault;
}

abbrev pub decreases-reading : goal.decreases-reading
decreases-reading g l = l.len - l.at

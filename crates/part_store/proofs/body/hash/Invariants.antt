use Rattle.std.proofs.Common.{◌≡◌, ◌≤◌, ◌-◌, take, drop, IfSome}
use Rattle.part_store.specs.Calls.{OnlyReads}
use Rattle.part_store.proofs.body.hash.Given as goal

abbrev pub invariant-reading : goal.invariant-reading
invariant-reading g l = record {
  above : l.span.s ≤ l.at;
  within : l.at ≤ l.span.e;
  same : g.V.Vault.files l.vault ≡ g.V.Vault.files l.fn.vault;
  hashed : IfSome (g.V.Vault.files l.vault) (λ files. l.hasher ≡ take (l.at - l.span.s) (drop l.span.s files.body));
  reads : OnlyReads g.V.Vault.made g.V.Vault.body_reads l.fn.vault l.vault;
  made : g.V.Vault.made l.fn.vault ≤ g.V.Vault.made l.vault;
  honest : g.V.Vault.honest l.vault ≡ g.V.Vault.honest l.fn.vault;
  placed : g.V.Vault.placed l.vault ≡ g.V.Vault.placed l.fn.vault;
  clean : g.V.Vault.faults l.vault ≡ g.V.Vault.faults l.fn.vault;
}

abbrev pub decreases-reading : goal.decreases-reading
decreases-reading g l = l.span.e - l.at

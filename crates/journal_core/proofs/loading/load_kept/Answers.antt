use Rattle.std.proofs.Common.{◌≡◌, IfSome}
use Rattle.journal_core.proofs.Assembled.{told-loaded}
use Rattle.journal_core.proofs.loading.load_kept.Goals as goal

pub returns-in-Log-clause-loaded : goal.returns-in-Log-clause-loaded
returns-in-Log-clause-loaded g c =
    let read = rw c.in-Log.is at c.in_ok-header.ensures.read in
    let bytes : IfSome (g.V.Vault.files c.args.vault.now) (λ f. c.deref.result.now ≡ f.log) = rw c.deref.ensures.value c.in_ok-log.ensures.bytes in
    told-loaded (g.V.Vault.files c.args.vault.now) c.deref.result.now c.in-Log.header c.in-Log.records.items c.in-Log.gate bytes c.requires read

use Rattle.std.proofs.Common.{ap, sym, ◌∙◌}
use Rattle.part_store.specs.Body.{identity}
use Rattle.part_store.proofs.Made.{blanked, keeps-made}
use Rattle.part_store.proofs.part_file.PartFile.create.Goals as goal

pub invariant_of-result : goal.invariant_of-result
invariant_of-result g c =
    keeps-made (g.V.Vault.files c.args.vault) (record { set = c.new-2.result; filled = c.new-4.result; verdicts = c.new-6.result }) c.requires c.in-Ok.ensures.aim c.in-Ok.ensures.log c.calls.ensures (ap g.V.Vault.faults c.of-initial.ensures)
    (c.new-6.ensures ∙ c.new-5.ensures.items) (sym (ap (identity g.V.Vault) c.of-initial.ensures)) (blanked c.args.aim.size (g.V.Vault.files c.args.vault) (g.V.Vault.files c.make.new.vault) c.make.result c.if-is_err.ensures.value c.make.ensures.body)

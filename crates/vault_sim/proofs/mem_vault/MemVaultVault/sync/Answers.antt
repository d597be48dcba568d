use Rattle.std.proofs.Common.{ap, ◌∙◌}
use Rattle.ed2k_outside.specs.Files.{Files, file_of}
use Rattle.vault_sim.specs.Images.{settles}
use Rattle.vault_sim.specs.MemVaults.{counted, vault_files, vault_now, vault_past}
use Rattle.vault_sim.proofs.Moments.{crash-settled}
use Rattle.vault_sim.proofs.mem_vault.MemVaultVault.sync.Goals as goal

pub returns-clause-torn : goal.returns-clause-torn
returns-clause-torn c =
    crash-settled c.args.which c.args.self.now.disk _ (vault_past c.args.self.now) _ c.in_ok-begin_still.ensures.follows.past
    (c.sync.ensures.settled ∙ ap (settles c.args.which (file_of c.args.which (vault_files c.begin_still.new.self))) c.in_ok-begin_still.ensures.follows.is
    ∙ ap (λ (files : Files). settles c.args.which (file_of c.args.which files) (counted (vault_now c.args.self.now))) c.in_ok-begin_still.ensures.files)

use Rattle.std.proofs.Common.{◌∷◌, length, ap, ◌∙◌}
use Rattle.vault_sim.specs.Images.{asks}
use Rattle.vault_sim.specs.MemVaults.{counted, vault_now, vault_past}
use Rattle.vault_sim.specs.declared.step.Asked.TheVariants.{Write}
use Rattle.vault_sim.proofs.Moments.{crash-asked}
use Rattle.vault_sim.proofs.mem_vault.MemVaultVault.write_at.Goals as goal

pub returns-then-fails-clause-torn : goal.returns-then-fails-clause-torn
returns-then-fails-clause-torn c =
    let asked = Write c.args.at (length c.args.piece.now) in
    let old = vault_now c.args.self.now in
    let past = vault_past c.args.self.now in
    let before = c.doubt.ensures.past ∙ c.in_ok-fails.ensures.follows.past ∙ ap (λ moment. moment ∷ past) c.reserve.ensures.now in
    crash-asked c.args.which asked old (vault_now c.doubt.new.self) past (vault_past c.doubt.new.self) before (c.doubt.ensures.now ∙ ap (asks c.args.which asked) (c.in_ok-fails.ensures.follows.is ∙ ap counted c.reserve.ensures.now))

pub returns-in-Ok-clause-torn : goal.returns-in-Ok-clause-torn
returns-in-Ok-clause-torn c =
    let asked = Write c.args.at (length c.args.piece.now) in
    let old = vault_now c.args.self.now in
    let past = vault_past c.args.self.now in
    let before = c.in_ok-fails.ensures.follows.past ∙ ap (λ moment. moment ∷ past) c.reserve.ensures.now in
    crash-asked c.args.which asked old _ past _ before (c.in-Ok.ensures.asked ∙ ap (asks c.args.which asked) (c.in_ok-fails.ensures.follows.is ∙ ap counted c.reserve.ensures.now))

pub returns-in-Err-clause-torn : goal.returns-in-Err-clause-torn
returns-in-Err-clause-torn c =
    let asked = Write c.args.at (length c.args.piece.now) in
    let old = vault_now c.args.self.now in
    let past = vault_past c.args.self.now in
    let before = c.doubt-in-Err.ensures.past ∙ c.in_ok-fails.ensures.follows.past ∙ ap (λ moment. moment ∷ past) c.reserve.ensures.now in
    crash-asked c.args.which asked old (vault_now c.doubt-in-Err.new.self) past (vault_past c.doubt-in-Err.new.self) before (c.doubt-in-Err.ensures.now ∙ ap (asks c.args.which asked) (c.in-Err.ensures.err_asked ∙ c.in_ok-fails.ensures.follows.is ∙ ap counted c.reserve.ensures.now))

use Rattle.std.proofs.Common.{◌≡◌, rules, sym, subst}
use Rattle.vault_sim.specs.Steps.{Reaches, asked_of, told, unmade}
use Rattle.vault_sim.proofs.StepLemmas.{left-nothing}
use Rattle.vault_sim.proofs.disk_file.DiskFile.torn.Goals as goal

pub returns-then-pick-eq0-clause-image : goal.returns-then-pick-eq0-clause-image
returns-then-pick-eq0-clause-image c =
    let steps = c.args.self.now.steps.items in
    let now = c.args.self.now.bytes.items in
    let is : c.in_ok-copy_bytes.field-0.items ≡ now = search rules in
    subst (Reaches (asked_of steps) (unmade steps now)) (sym is) (told steps now c.args.self.now.legal)

pub returns-then-pick-eq18446744073709551615-clause-image : goal.returns-then-pick-eq18446744073709551615-clause-image
returns-then-pick-eq18446744073709551615-clause-image c =
    let steps = c.args.self.now.steps.items in
    let base = unmade steps c.args.self.now.bytes.items in
    let is : c.in_ok-bytes.bytes.items ≡ base = search rules in
    subst (Reaches (asked_of steps) base) (sym is) (left-nothing (asked_of steps) base)

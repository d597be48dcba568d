use Rattle.std.proofs.Common.{◌≡◌, [], ◌∷◌, ◌++◌, length, take, drop, min, rules, ap, ◌∙◌}
use Rattle.ed2k_outside.specs.Files.{resized}
use Rattle.vault_sim.specs.declared.step.Asked.TheVariants.{Length}
use Rattle.vault_sim.specs.declared.step.Step.{Step}
use Rattle.vault_sim.proofs.StepLemmas.{legal-more, unsettled-more, sized}
use Rattle.vault_sim.proofs.disk_file.DiskFile.set_len.Goals as goal

pub invariant_of-self-2 : goal.invariant_of-self-2
invariant_of-self-2 c =
    let step : Step = record { asked = Length c.args.n; len = c.len-len.result; at = c.min-at.result; lost = c.in_ok-copied.field-0 } in
    let is : c.push_reserved.new.self.items ≡ c.args.self.now.steps.items ++ step ∷ [] = c.push_reserved.ensures.items in
    let long : c.len-len.result ≡ length c.args.self.now.bytes.items = search rules in
    let is_now : c.resize.new.self.items ≡ resized c.args.self.now.bytes.items c.args.n = search rules in
    let did = sized c.args.self.now.bytes.items c.resize.new.self.items c.in_ok-copied.field-0.items c.len-len.result c.min-at.result c.args.n long (c.min-at.ensures ∙ ap (λ k. min c.args.n k) long) (c.in_ok-copied.ensures ∙ ap (λ bytes. take c.len-len.result (drop c.min-at.result bytes)) c.deref.ensures.value) is_now in
    record { legal = legal-more c.args.self.now.steps.items c.push_reserved.new.self.items step c.args.self.now.bytes.items c.resize.new.self.items is did.0 did.1 did.2 c.args.self.now.legal }

pub returns-clause-asked : goal.returns-clause-asked
returns-clause-asked c =
    let step : Step = record { asked = Length c.args.n; len = c.len-len.result; at = c.min-at.result; lost = c.in_ok-copied.field-0 } in
    let is : c.push_reserved.new.self.items ≡ c.args.self.now.steps.items ++ step ∷ [] = c.push_reserved.ensures.items in
    let long : c.len-len.result ≡ length c.args.self.now.bytes.items = search rules in
    let is_now : c.resize.new.self.items ≡ resized c.args.self.now.bytes.items c.args.n = search rules in
    let did = sized c.args.self.now.bytes.items c.resize.new.self.items c.in_ok-copied.field-0.items c.len-len.result c.min-at.result c.args.n long (c.min-at.ensures ∙ ap (λ k. min c.args.n k) long) (c.in_ok-copied.ensures ∙ ap (λ bytes. take c.len-len.result (drop c.min-at.result bytes)) c.deref.ensures.value) is_now in
    unsettled-more c.args.self.now.steps.items c.push_reserved.new.self.items step c.args.self.now.bytes.items c.resize.new.self.items is did.0

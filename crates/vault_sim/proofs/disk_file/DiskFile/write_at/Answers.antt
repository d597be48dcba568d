use Rattle.std.proofs.Common.{◌≡◌, [], ◌∷◌, ◌++◌, length, take, drop, rules, ap, ◌∙◌}
use Rattle.vault_sim.specs.declared.step.Asked.TheVariants.{Write}
use Rattle.vault_sim.specs.declared.step.Step.{Step}
use Rattle.vault_sim.proofs.StepLemmas.{legal-more, unsettled-more, wrote}
use Rattle.vault_sim.proofs.disk_file.DiskFile.write_at.Goals as goal

pub invariant_of-self-2 : goal.invariant_of-self-2
invariant_of-self-2 c =
    let step : Step = record { asked = Write c.args.at (length c.args.piece.now); len = c.len.result; at = c.args.at; lost = c.in_ok-copied.field-0 } in
    let is : c.push_reserved.new.self.items ≡ c.args.self.now.steps.items ++ step ∷ [] = c.push_reserved.ensures.items in
    let long : c.len.result ≡ length c.args.self.now.bytes.items = search rules in
    let did = wrote c.args.self.now.bytes.items c.overwrite.new.file.items c.args.piece.now c.in_ok-copied.field-0.items c.len.result c.args.at c.requires.place long (c.in_ok-copied.ensures ∙ ap (λ bytes. take (length c.args.piece.now) (drop c.args.at bytes)) c.deref.ensures.value) c.in_ok-overwrite.ensures.ok in
    record { legal = legal-more c.args.self.now.steps.items c.push_reserved.new.self.items step c.args.self.now.bytes.items c.overwrite.new.file.items is did.0 did.1 did.2 c.args.self.now.legal }

pub returns-clause-asked : goal.returns-clause-asked
returns-clause-asked c =
    let step : Step = record { asked = Write c.args.at (length c.args.piece.now); len = c.len.result; at = c.args.at; lost = c.in_ok-copied.field-0 } in
    let is : c.push_reserved.new.self.items ≡ c.args.self.now.steps.items ++ step ∷ [] = c.push_reserved.ensures.items in
    let long : c.len.result ≡ length c.args.self.now.bytes.items = search rules in
    let did = wrote c.args.self.now.bytes.items c.overwrite.new.file.items c.args.piece.now c.in_ok-copied.field-0.items c.len.result c.args.at c.requires.place long (c.in_ok-copied.ensures ∙ ap (λ bytes. take (length c.args.piece.now) (drop c.args.at bytes)) c.deref.ensures.value) c.in_ok-overwrite.ensures.ok in
    unsettled-more c.args.self.now.steps.items c.push_reserved.new.self.items step c.args.self.now.bytes.items c.overwrite.new.file.items is did.0

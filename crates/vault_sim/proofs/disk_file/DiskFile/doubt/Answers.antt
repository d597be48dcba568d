use Rattle.std.proofs.Common.{◌≡◌, [], ◌∷◌, ◌++◌, length, rules}
use Rattle.vault_sim.specs.declared.step.Step.{Step}
use Rattle.vault_sim.proofs.StepLemmas.{legal-more, unsettled-more, doubted}
use Rattle.vault_sim.proofs.disk_file.DiskFile.doubt.Goals as goal

pub invariant_of-self : goal.invariant_of-self
invariant_of-self c =
    let step : Step = record { asked = c.args.asked; len = c.len-len.result; at = c.len-len.result; lost = c.new.result } in
    let is : c.push_reserved.new.self.items ≡ c.args.self.now.steps.items ++ step ∷ [] = c.push_reserved.ensures.items in
    let long : c.len-len.result ≡ length c.args.self.now.bytes.items = search rules in
    let did = doubted c.args.asked c.args.self.now.bytes.items c.len-len.result c.len-len.result c.new.result.items c.new.ensures.items long long in
    record { legal = legal-more c.args.self.now.steps.items c.push_reserved.new.self.items step c.args.self.now.bytes.items c.args.self.now.bytes.items is did.0 did.1 did.2 c.args.self.now.legal }

pub returns-clause-asked : goal.returns-clause-asked
returns-clause-asked c =
    let step : Step = record { asked = c.args.asked; len = c.len-len.result; at = c.len-len.result; lost = c.new.result } in
    let is : c.push_reserved.new.self.items ≡ c.args.self.now.steps.items ++ step ∷ [] = c.push_reserved.ensures.items in
    let long : c.len-len.result ≡ length c.args.self.now.bytes.items = search rules in
    let did = doubted c.args.asked c.args.self.now.bytes.items c.len-len.result c.len-len.result c.new.result.items c.new.ensures.items long long in
    unsettled-more c.args.self.now.steps.items c.push_reserved.new.self.items step c.args.self.now.bytes.items c.args.self.now.bytes.items is did.0

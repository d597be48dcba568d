use Rattle.std.proofs.Common.{◌≡◌, ◌-◌, ◌≤◌, suc, length, take, drop, sym, ap, ◌∙◌, subst, arith}
use Rattle.vault_sim.specs.Steps.{unmade}
use Rattle.vault_sim.proofs.Walks.{legal-at}
use Rattle.vault_sim.proofs.redo.undo_all.Goals as goal

pub undo-requires : goal.undo-requires
undo-requires c =
    let k = c.loop-left.left - 1 in
    let left : c.loop-left.left ≡ suc k = omega (arith, c.loop-left-test.true) in
    let step = c.index-steps-left.result in
    let now : c.loop-left.bytes.items ≡ unmade (drop (suc k) c.args.steps.now) c.args.bytes.now.items =
    c.loop-left.invariant.1 ∙ ap (λ j. unmade (drop j c.args.steps.now) c.args.bytes.now.items) left in
    subst (λ bytes. step.at ≤ length (take step.len bytes)) (sym now)
    (legal-at c.args.steps.now k step c.args.bytes.now.items c.requires (omega (arith, c.loop-left.invariant.0, c.loop-left-test.true)) c.index-steps-left.is)

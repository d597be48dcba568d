use Rattle.vault_sim.proofs.Walks.{reaches-more}
use Rattle.vault_sim.proofs.redo.redo_all.Goals as goal

pub loop-step-preserved : goal.loop-step-preserved
loop-step-preserved c =
    reaches-more c.args.steps.now c.loop-step.step-index c.step-item.result c.args.bytes.now.items c.loop-step.bytes.items c.redo_one.new.bytes.items
    c.loop-step-test.true c.step-item.is c.loop-step.invariant c.in_ok-redo_one.ensures

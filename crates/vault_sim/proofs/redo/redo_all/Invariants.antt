use Rattle.std.proofs.Common.{take}
use Rattle.vault_sim.specs.Steps.{Reaches, asked_of}
use Rattle.vault_sim.proofs.redo.redo_all.Given as goal

abbrev pub invariant-loop-step : goal.invariant-loop-step
invariant-loop-step l = Reaches (asked_of (take l.step-index l.steps)) l.initial.bytes.items l.bytes.items

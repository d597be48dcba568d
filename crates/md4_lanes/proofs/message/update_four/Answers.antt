use Rattle.std.proofs.Common.{List, ℕ, arith, ap, ◌∙◌}
use Rattle.md4_hash.specs.Md4.{after}
use Rattle.md4_lanes.proofs.message.update_four.Goals as goal

pub append_blocks-requires-clause-found : goal.append_blocks-requires-clause-found
append_blocks-requires-clause-found c =
    c.lane.ensures
    ∙ c.take_blocks.ensures 0 (omega arith)
    ∙ ap (λ (r : List ℕ). after r c.args.m0.now) (c.gather-lanes.ensures 0 (omega arith) ∙ c.registers.ensures)

pub append_blocks-requires-2-clause-found : goal.append_blocks-requires-2-clause-found
append_blocks-requires-2-clause-found c =
    c.lane-2.ensures
    ∙ c.take_blocks.ensures 1 (omega arith)
    ∙ ap (λ (r : List ℕ). after r c.args.m1.now) (c.gather-lanes.ensures 1 (omega arith) ∙ c.registers-2.ensures)

pub append_blocks-requires-3-clause-found : goal.append_blocks-requires-3-clause-found
append_blocks-requires-3-clause-found c =
    c.lane-3.ensures
    ∙ c.take_blocks.ensures 2 (omega arith)
    ∙ ap (λ (r : List ℕ). after r c.args.m2.now) (c.gather-lanes.ensures 2 (omega arith) ∙ c.registers-3.ensures)

pub append_blocks-requires-4-clause-found : goal.append_blocks-requires-4-clause-found
append_blocks-requires-4-clause-found c =
    c.lane-4.ensures
    ∙ c.take_blocks.ensures 3 (omega arith)
    ∙ ap (λ (r : List ℕ). after r c.args.m3.now) (c.gather-lanes.ensures 3 (omega arith) ∙ c.registers-4.ensures)

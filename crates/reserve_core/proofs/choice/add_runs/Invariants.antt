use Rattle.std.proofs.Common.{◌≡◌, ◌++◌, take}
use Rattle.std.specs.List.{filter_map, range_with_len}
use Rattle.std.specs.Vec.{vec_capacity}
use Rattle.part_sizes.specs.Block.{block_range}
use Rattle.reserve_core.specs.Choice.{first_run}
use Rattle.reserve_core.specs.Free.{is_clear}
use Rattle.reserve_core.proofs.choice.add_runs.Given as goal

abbrev pub invariant-loop-block : goal.invariant-loop-block
invariant-loop-block l =
    (l.spans.items ≡ take 3 (l.initial.spans.items ++ filter_map (λ k. first_run (is_clear l.filled.set l.holders) (block_range l.size l.part k)) (range_with_len 0 l.block)))
    × (vec_capacity l.spans ≡ 3)

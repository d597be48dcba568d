use Rattle.std.proofs.Common.{◌≡◌, false, get_or, take}
use Rattle.std.specs.List.{filter, flat_map}
use Rattle.std.specs.Vec.{vec_capacity}
use Rattle.reserve_core.specs.Free.{is_clear, runs_in}
use Rattle.reserve_core.proofs.choice.pick.Given as goal

abbrev pub invariant-loop-part : goal.invariant-loop-part
invariant-loop-part l =
    (l.spans.items ≡ take 3 (flat_map (runs_in l.size (is_clear l.filled.set l.holders)) (filter (λ i. get_or l.bits i false) (take l.part-index l.parts))))
    × (vec_capacity l.spans ≡ 3)

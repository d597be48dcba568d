use Rattle.std.proofs.Common.{◌≡◌, ◌+◌, ◌≤◌, ◌++◌, [], length, map, take}
use Rattle.std.specs.Vec.{vec_capacity, vec_len}
use Rattle.reserve_core.specs.Held.{hold_after}
use Rattle.reserve_core.proofs.holds.hold_all.Given as goal

abbrev pub invariant-loop-span : goal.invariant-loop-span
invariant-loop-span l =
    (l.ranges.items ≡ l.initial.ranges.items ++ map (hold_after l.peer []) (take l.span-index l.spans))
    × (vec_len l.ranges ≡ vec_len l.initial.ranges + l.span-index)
    × (vec_len l.initial.ranges + length l.spans ≤ vec_capacity l.ranges)

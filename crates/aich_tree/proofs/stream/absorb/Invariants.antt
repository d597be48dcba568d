use Rattle.std.proofs.Common.{◌≡◌, ◌+◌, ◌≤◌, ◌++◌, length, vec_capacity}
use Rattle.aich_tree.specs.Hashing.{HoldsLeaves}
use Rattle.aich_tree.specs.Leaves.{ended_count, room_behind}
use Rattle.aich_tree.proofs.stream.absorb.Given as goal

abbrev pub invariant-ends : goal.invariant-ends
invariant-ends l =
    record {
      counted : l.place ≡ length l.fed.bytes;
      room_is : l.room ≡ room_behind l.place;
      left : l.place + length l.rest ≡ l.at + length l.piece;
      whole : l.fed.bytes ++ l.rest ≡ l.initial.fed.bytes ++ l.piece;
      space : ended_count (l.place + length l.rest) ≤ vec_capacity l.leaves;
      holds : HoldsLeaves l.leaves.items l.block l.fed.bytes;
    }

abbrev pub decreases-ends : goal.decreases-ends
decreases-ends l = length l.rest

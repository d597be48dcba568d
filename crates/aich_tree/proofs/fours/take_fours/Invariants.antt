use Rattle.std.proofs.Common.{◌≡◌, ◌+◌, ◌≤◌, ◌++◌, length, vec_capacity}
use Rattle.aich_tree.specs.Hashing.{HoldsLeaves}
use Rattle.aich_tree.specs.Leaves.{ended_count}
use Rattle.aich_tree.proofs.fours.take_fours.Given as goal

abbrev pub invariant-turns : goal.invariant-turns
invariant-turns l =
    record {
      counted : l.place ≡ length l.fed.bytes;
      left : l.place + length l.rest ≡ l.at + length l.piece;
      shorter : length l.rest ≤ length l.piece;
      whole : l.fed.bytes ++ l.rest ≡ l.initial.fed.bytes ++ l.piece;
      space : ended_count (l.at + length l.piece) ≤ vec_capacity l.leaves;
      holds : HoldsLeaves l.leaves.items l.block l.fed.bytes;
    }

abbrev pub decreases-turns : goal.decreases-turns
decreases-turns l = length l.rest

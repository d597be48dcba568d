use Rattle.std.proofs.Common.{◌≡◌, take}
use Rattle.part_hashset.specs.HashSet.{joined}
use Rattle.part_hashset.proofs.check.joined_hash.Given as goal

abbrev pub invariant-loop-member : goal.invariant-loop-member
invariant-loop-member l = l.hasher ≡ joined (take l.member-index l.set)

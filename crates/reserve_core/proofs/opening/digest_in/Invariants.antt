use Rattle.std.proofs.Common.{◌≡◌, drop}
use Rattle.part_hashset.specs.Goals.{digest_in}
use Rattle.reserve_core.proofs.opening.digest_in.Given as goal

abbrev pub invariant-loop-pair : goal.invariant-loop-pair
invariant-loop-pair l = digest_in l.pairs l.part ≡ digest_in (drop l.pair-index l.pairs) l.part

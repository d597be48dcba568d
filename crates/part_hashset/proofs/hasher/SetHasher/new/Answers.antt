use Rattle.std.proofs.Common.{refl}
use Rattle.part_hashset.specs.WholeParts.{whole_hashes, open_part}
use Rattle.part_hashset.proofs.hasher.SetHasher.new.Goals as goal

pub invariant_of-result : goal.invariant_of-result
unfolding whole_hashes open_part
invariant_of-result c =
    rw (c.new.ensures.items, c.new-2.ensures, c.new-3.ensures)
    (record { whole = refl; open_part_of = refl; filled_to = refl })

use Rattle.std.proofs.Common.{refl}
use Rattle.sha1.specs.Sha1.{hash_after}
use Rattle.sha1_lanes.proofs.digest.start.Goals as goal

pub returns : goal.returns
unfolding hash_after
returns c = λ j lt m.
    rw (c.same.ensures j lt, c.same-2.ensures j lt, c.same-3.ensures j lt, c.same-4.ensures j lt, c.same-5.ensures j lt) refl

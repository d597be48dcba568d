use Rattle.std.proofs.Common.{sym, arith}
use Rattle.sha1_lanes.specs.Lanes.{lane, five}
use Rattle.sha1_lanes.proofs.LaneLemmas.{slice_index-lane, rounds_first_k}
use Rattle.sha1_lanes.proofs.compress.first_step.Goals as goal

pub returns : goal.returns
returns c = λ j lt b h held. (
  held.0,
  rounds_first_k b h (lane j c.args.w.now) (five j c.args.v) c.args.t _ _ _ _ (omega arith) held.0 held.1
      (sym (slice_index-lane c.args.w.now j c.args.t)) (c.ch.ensures j lt) (c.same.ensures j lt) (c.round.ensures j lt),
)

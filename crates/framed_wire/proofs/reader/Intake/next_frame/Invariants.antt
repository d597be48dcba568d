use Rattle.std.proofs.Common.{◌≡◌, ◌-◌, ◌≤◌, max}
use Rattle.framed_wire.specs.Inlet.{inlet, intake_of}
use Rattle.framed_wire.specs.Reads.{TakesMore}
use Rattle.framed_wire.proofs.reader.Intake.next_frame.Given as goal

-- some pieces were taken, and nothing was given
abbrev pub invariant-frames : goal.invariant-frames
invariant-frames g l = record {
  more : TakesMore (inlet g.S.Source l.fn.source (intake_of l.fn.self)) (inlet g.S.Source l.source (intake_of l.self));
  within : l.self.taken ≤ max l.fn.self.taken l.budget;
  beside : g.S.Source.beside_left l.source ≡ g.S.Source.beside_left l.fn.source;
}

abbrev pub decreases-frames : goal.decreases-frames
decreases-frames g l = l.budget - l.self.taken

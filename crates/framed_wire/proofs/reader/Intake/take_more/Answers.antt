use Rattle.std.proofs.Common.{refl, arith}
use Rattle.framed_wire.specs.Inlet.{inlet, intake_of}
use Rattle.framed_wire.specs.declared.stop.Stop.TheVariants.{Spent}
use Rattle.framed_wire.proofs.Takes.{stops_here}
use Rattle.framed_wire.proofs.reader.Intake.take_more.Goals as goal

pub returns-then-self-budget-clause-stop : goal.returns-then-self-budget-clause-stop
returns-then-self-budget-clause-stop g c =
    let here = inlet g.S.Source c.args.source.now (intake_of c.args.self.now) in
    stops_here c.args.budget Spent here here refl refl (omega arith) refl (c.if-self-budget.true, c.requires.partial)

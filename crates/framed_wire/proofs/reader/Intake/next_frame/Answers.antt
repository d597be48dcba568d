use Rattle.std.proofs.Common.{refl, sym, subst}
use Rattle.std.proofs.lemmas.Result.{err_from_is_err_and}
use Rattle.ed2k_frame.specs.Reading.{Reading}
use Rattle.framed_wire.specs.Inlet.{Inlet, inlet, intake_of}
use Rattle.framed_wire.specs.Reads.{TakesMore}
use Rattle.framed_wire.proofs.Takes.{gives_fewer, gives_on, stops_on}
use Rattle.framed_wire.proofs.reader.Intake.next_frame.Goals as goal

pub returns-in_err-take_more-in-Ok-None-clause-reads : goal.returns-in_err-take_more-in-Ok-None-clause-reads
returns-in_err-take_more-in-Ok-None-clause-reads g c =
    let old = inlet g.S.Source c.args.source.now (intake_of c.args.self.now) in
    let see : Reading → Inlet = λ reader. inlet g.S.Source c.frames.source (record { taken = c.frames.self.taken; unread = reader.rest }) in
    let new = inlet g.S.Source c.take_more.new.source (intake_of c.take_more.new.self) in
    let same = (rw c.in-Ok-None.field-0-is at c.in-Ok-None.ensures.none).1 in
    let more : TakesMore old (see c.next.new.self) = subst (λ (reader : Reading). TakesMore old (see reader)) (sym same) c.frames.invariant.more in
    let stops = c.in_err-take_more-in-Ok-None.ensures.stop in
    let p = err_from_is_err_and c.from_residual.result c.from_residual.ensures.1 in
    rw (p.1, p.2) (stops_on c.args.budget c.in_err-take_more-in-Ok-None.field-0.0 old (see c.next.new.self) new more stops)

pub returns-in-Ok-Some-clause-fewer : goal.returns-in-Ok-Some-clause-fewer
returns-in-Ok-Some-clause-fewer g c =
    let old = inlet g.S.Source c.args.source.now (intake_of c.args.self.now) in
    let mid = inlet g.S.Source c.frames.source (intake_of c.frames.self) in
    let new = inlet g.S.Source c.frames.source (record { taken = c.frames.self.taken; unread = c.next.new.self.rest }) in
    let first = rw c.in-Ok-Some.field-0-is at c.in-Ok-Some.ensures.frame in
    let gives = gives_on c.in-Ok-Some.frame old mid new c.frames.invariant.more refl refl refl first in
    gives_fewer c.args.budget c.in-Ok-Some.frame old new c.frames.invariant.within gives

use Rattle.std.proofs.Common.{refl, ap, subst, sym}
use Rattle.std.specs.Io.KnownBytes.{prepend_known}
use Rattle.ed2k_outside.specs.WireMembers.{members}
use Rattle.peer_fetch.specs.Moves.{StopsBy, outside}
use Rattle.peer_fetch.specs.declared.cause.Cause.{Cause}
use Rattle.ed2k_frame.specs.Reading.{Reading}
use Rattle.peer_fetch.proofs.Frames.{receives_fault, receives_frame}
use Rattle.peer_fetch.proofs.link.LinkCore.receive.Goals as goal

pub returns-in-Ok-Some-clause-receives : goal.returns-in-Ok-Some-clause-receives
returns-in-Ok-Some-clause-receives g c =
    let see = outside (members g.W.Source g.W.Sink g.W.Wire) in
    let first = rw c.in-Ok-Some.field-0-is at c.in-Ok-Some.ensures.frame in
    receives_frame c.args.budget c.message_of.result c.in-Ok-Some.frame c.frames.self.reader.rest c.next.new.self.rest (g.W.Source.left c.frames.self.wire)
    (see c.args.self.now) (see c.frames.self) (see (record c.frames.self { reader = c.next.new.self })) refl refl c.frames.invariant.ahead c.frames.invariant.room refl refl refl
    first c.message_of.ensures

pub returns-in-Err-clause-receives : goal.returns-in-Err-clause-receives
returns-in-Err-clause-receives g c =
    let see = outside (members g.W.Source g.W.Sink g.W.Wire) in
    let here = c.frames.self in
    let old = see c.args.self.now in
    let new = see (record here { reader = c.next.new.self }) in
    let stop = receives_fault c.args.budget c.in-Err.fault here.reader.rest (g.W.Source.left here.wire) old (see here) new
    refl refl c.frames.invariant.ahead c.frames.invariant.room
    (λ other. let there = c.in-Err.ensures.fault other in (there.0, ap (λ (r : Reading). r.rest) there.1, ap (λ (r : Reading). prepend_known r.rest (g.W.Source.left here.wire)) there.1)) in
    subst (λ (cause : Cause). StopsBy c.args.budget cause old new) (sym c.frame_cause.ensures) stop

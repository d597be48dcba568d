use Rattle.std.proofs.Common.{arith, rules}
use Rattle.framed_wire.proofs.Sends.{sends_more}
use Rattle.framed_wire.proofs.send.send_all.Goals as goal

pub sending-preserved : goal.sending-preserved
sending-preserved g c = record {
  beside = search rules;
  later = omega (arith, c.in-Ok.ensures.cause.later);
  sent = sends_more _ _ c.in-Ok.n _ _ _ c.in-Ok.ensures.bound c.sending.invariant.sent c.in-Ok.ensures.bytes;
}

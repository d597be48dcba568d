use Rattle.std.proofs.Common.{arith, ◌∙◌}
use Rattle.reserve_core.specs.Events.{events}
use Rattle.ed2k_node.proofs.ReportLemmas.{all_begun, front_of_lines, lines_go, lines_stop, stopped}
use Rattle.ed2k_node.proofs.report.send_peers.Goals as goal

pub returns-in_err-line-clause-sent : goal.returns-in_err-line-clause-sent
returns-in_err-line-clause-sent g c =
    stopped c.from_residual.result _ _ _ c.from_residual.ensures.0
    (front_of_lines (events c.args.log.now) c.args.peers.now c.loop-place.place _ _ (all_begun _ _ _ c.loop-place.invariant.sent))

pub returns-in_err-send-clause-sent : goal.returns-in_err-send-clause-sent
returns-in_err-send-clause-sent g c =
    stopped c.from_residual-in_err-send.result _ _ _ c.from_residual-in_err-send.ensures.0
    (lines_stop (events c.args.log.now) c.args.peers.now c.loop-place.place c.index-peers-place.result c.as_bytes.result.now _ _ _
    c.loop-place-test.true c.index-peers-place.is (c.as_bytes.ensures.value ∙ c.in_ok-line.ensures) c.loop-place.invariant.sent c.in_err-send.ensures.sent)

pub loop-place-preserved : goal.loop-place-preserved
loop-place-preserved g c = record {
  sent = lines_go (events c.args.log.now) c.args.peers.now c.loop-place.place c.index-peers-place.result c.as_bytes.result.now _ _ _
      c.loop-place-test.true c.index-peers-place.is (c.as_bytes.ensures.value ∙ c.in_ok-line.ensures) c.loop-place.invariant.sent c.in_ok-send.ensures.sent;
  later = omega (arith, c.loop-place.invariant.later, c.in_ok-send.ensures.cause);
}

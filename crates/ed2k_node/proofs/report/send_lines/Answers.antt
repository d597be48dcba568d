use Rattle.std.proofs.Common.{◌∙◌, subst}
use Rattle.ed2k_node.specs.Sent.{IsSent, IsBegun}
use Rattle.ed2k_node.proofs.ReportLemmas.{end_with_peers, not_empty, stop_at_file, stop_at_parts, stopped}
use Rattle.ed2k_node.proofs.report.send_lines.Goals as goal

pub returns-in_err-send-clause-sent : goal.returns-in_err-send-clause-sent
returns-in_err-send-clause-sent g c =
    let d = c.args.download.now in
    let made = not_empty d.log.now c.is_empty.result c.is_empty.ensures c.if-is_empty.false in
    let begun = subst (IsBegun (g.O.Sink.sent c.args.out.now) (g.O.Sink.sent c.send.new.out)) (c.as_bytes.ensures.value ∙ c.in_ok-file.ensures) c.in_err-send.ensures.sent in
    stopped c.from_residual-in_err-send.result _ _ _ c.from_residual-in_err-send.ensures.0 (stop_at_file d.name.now d.aim d.log.now d.peers.now _ _ made begun)

pub returns-in_err-send-2-clause-sent : goal.returns-in_err-send-2-clause-sent
returns-in_err-send-2-clause-sent g c =
    let d = c.args.download.now in
    let made = not_empty d.log.now c.is_empty.result c.is_empty.ensures c.if-is_empty.false in
    let file = subst (IsSent (g.O.Sink.sent c.args.out.now) (g.O.Sink.sent c.send.new.out)) (c.as_bytes.ensures.value ∙ c.in_ok-file.ensures) c.in_ok-send.ensures.sent in
    let begun = subst (IsBegun (g.O.Sink.sent c.send.new.out) (g.O.Sink.sent c.send-2.new.out)) (c.as_bytes-2.ensures.value ∙ c.in_ok-parts.ensures) c.in_err-send-2.ensures.sent in
    stopped c.from_residual-in_err-send-2.result _ _ _ c.from_residual-in_err-send-2.ensures.0 (stop_at_parts d.name.now d.aim d.log.now d.peers.now _ _ _ made file begun)

pub returns-clause-sent : goal.returns-clause-sent
returns-clause-sent g c =
    let d = c.args.download.now in
    let made = not_empty d.log.now c.is_empty.result c.is_empty.ensures c.if-is_empty.false in
    let file = subst (IsSent (g.O.Sink.sent c.args.out.now) (g.O.Sink.sent c.send.new.out)) (c.as_bytes.ensures.value ∙ c.in_ok-file.ensures) c.in_ok-send.ensures.sent in
    let parts = subst (IsSent (g.O.Sink.sent c.send.new.out) (g.O.Sink.sent c.send-2.new.out)) (c.as_bytes-2.ensures.value ∙ c.in_ok-parts.ensures) c.in_ok-send-2.ensures.sent in
    end_with_peers c.send_peers.result d.name.now d.aim d.log.now d.peers.now _ _ _ _ made file parts c.send_peers.ensures.sent

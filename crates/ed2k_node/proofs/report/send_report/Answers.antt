use Rattle.std.proofs.Common.{sym, ap, subst, ℕ, List, Option}
use Rattle.ed2k_node.specs.Report.{last_line, lines_before}
use Rattle.ed2k_node.specs.Sent.{IsBegun}
use Rattle.ed2k_node.proofs.ReportLemmas.{all_begun, begun_more, has_sent_then, stopped}
use Rattle.ed2k_node.proofs.report.send_report.Goals as goal

pub returns-in_err-send_lines-clause-sent : goal.returns-in_err-send_lines-clause-sent
returns-in_err-send_lines-clause-sent g c =
    let d = c.args.download.now in
    stopped c.from_residual.result _ _ _ c.from_residual.ensures.0
    (begun_more _ _ (lines_before d.name.now d.aim d.log.now d.peers.now) (last_line c.args.ending) c.in_err-send_lines.ensures.sent)

pub returns-clause-sent : goal.returns-clause-sent
returns-clause-sent g c =
    let d = c.args.download.now in
    has_sent_then c.send_last.result _ _ _ (lines_before d.name.now d.aim d.log.now d.peers.now) (last_line c.args.ending) c.in_ok-send_lines.ensures.sent c.send_last.ensures.sent

pub returns-clause-refused : goal.returns-clause-refused
returns-clause-refused g c =
    let d = c.args.download.now in
    let lines = lines_before d.name.now d.aim d.log.now d.peers.now in
    λ refused. subst (λ (known : Option (List ℕ)). IsBegun (g.O.Sink.sent c.args.out.now) known lines)
    (sym (ap g.O.Sink.sent (c.send_last.ensures.refused refused))) (all_begun _ _ lines c.in_ok-send_lines.ensures.sent)

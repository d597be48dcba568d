use Rattle.std.proofs.Common.{arith, sym, ◌∙◌}
use Rattle.ed2k_node.specs.Report.{findings_of}
use Rattle.ed2k_node.proofs.Codes.{refused_at_five, refused_before}
use Rattle.ed2k_node.proofs.ReportLemmas.{begun_refused, sent_refused}
use Rattle.ed2k_node.proofs.report.report_download.Goals as goal

pub returns-in-Ok-clause-reported : goal.returns-in-Ok-clause-reported
returns-in-Ok-clause-reported g c =
    let d = c.args.download.now in
    record {
      whole = λ five six. (c.code.ensures.code, c.in-Ok.ensures.sent);
      stopped = λ six. absurd (c.code.ensures.other six);
      refused = λ five. sent_refused (findings_of d) c.args.ending _ _
          (refused_at_five c.args.ending (sym c.code.ensures.code ∙ five)) c.in-Ok.ensures.sent;
    }

pub returns-in-Err-Output-clause-reported : goal.returns-in-Err-Output-clause-reported
returns-in-Err-Output-clause-reported g c =
    let d = c.args.download.now in
    let told = c.without_output.ensures in
    record {
      whole = λ five six. absurd (six (told.output (λ is. five (told.refused is))));
      stopped = λ six. (λ is. let five = told.refused is in omega (arith, six, five), c.in-Err-Output.ensures.sent);
      refused = λ five. begun_refused (findings_of d) c.args.ending _ _
          (refused_before c.args.ending c.without_output.result five told.output) c.in-Err-Output.ensures.sent;
    }

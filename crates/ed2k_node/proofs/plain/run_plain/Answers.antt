use Rattle.std.proofs.Common.{rules}
use Rattle.ed2k_node.proofs.AnswerLemmas.{run_link, run_refusal, run_usage, run_usage_printed, run_blob, run_wrong, run_listed}
use Rattle.ed2k_node.proofs.plain.run_plain.Goals as goal

pub returns : goal.returns
returns g c =
    let right = c.answer_words-answer.ensures.answer.right in
    let printed = c.report-status.ensures.prints.printed in
    record {
      answered = record {
        answered = record { answer = c.answer_words-answer.result; right = c.answer_words-answer.ensures.answer; printed = printed };
        done = run_link _ _ _ _ _ _ _ right printed;
        usage = run_usage _ _ _ _ _ _ _ right printed;
        wrong = run_wrong _ _ _ _ _ _ _ right printed;
        usage_printed = run_usage_printed _ _ _ _ printed;
        refused = run_refusal _ _ _ _ _ _ _ right printed;
        blob = λ eleven. c.answer_words-answer.ensures.answer.blob (run_blob _ _ _ _ printed eleven);
        output = search rules;
        unfetched = c.answer_words-answer.ensures.answer.unfetched;
        untouched = search rules;
        none = search rules;
        listed = run_listed _ _ _ _ printed;
      };
    }

use Rattle.std.proofs.Common.{not, ◌==◌, rules, tests}
use Rattle.std.proofs.lemmas.Fn.{filter_same}
use Rattle.upload_queue.specs.declared.waiting.Waiting.{Waiting}
use Rattle.upload_queue.proofs.waiting.leave.Goals as goal

pub returns : goal.returns
returns c = filter_same _ (λ (entry : Waiting). not (entry.number == c.args.number)) _ (λ x b f r. (search (rules, tests), search (rules, tests))) _ _ c.retain.ensures.filtered

use Rattle.std.proofs.Common.{rules, tests}
use Rattle.std.proofs.lemmas.List.Elements.{filter_from_retain}
use Rattle.reserve_core.specs.Held.{is_open}
use Rattle.reserve_core.proofs.holds.leave_open.Goals as goal

pub returns : goal.returns
returns c = filter_from_retain _ is_open (λ p x b q r. search (rules, tests)) _ _ _ c.retain.ensures.filtered

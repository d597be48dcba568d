use Rattle.ed2k_node.proofs.Shared.{none_is_never_shared}
use Rattle.ed2k_node.proofs.answer.end.Goals as goal

pub returns-clause-shared : goal.returns-clause-shared
returns-clause-shared g c = none_is_never_shared c.new.result.items c.new.ensures.items

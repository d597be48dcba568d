use Rattle.std.proofs.Common.{subst, List}
use Rattle.reserve_core.specs.Events.{events}
use Rattle.reserve_core.specs.declared.event.Entry.{Entry}
use Rattle.ed2k_node.specs.Left.{IsComplete}
use Rattle.ed2k_node.proofs.New.{new_is_not_complete}
use Rattle.ed2k_node.proofs.get.give_up.Goals as goal

pub returns-clause-lacks : goal.returns-clause-lacks
returns-clause-lacks g c all =
    new_is_not_complete c.args.file.aim c.args.file.log c.requires.size c.requires.new (subst (λ (l : List Entry). IsComplete c.args.file.aim (events l)) c.take_apart.ensures.apart.log all)

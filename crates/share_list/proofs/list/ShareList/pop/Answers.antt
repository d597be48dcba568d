use Rattle.std.proofs.Common.{sym, ◌∙◌}
use Rattle.share_list.proofs.list.ShareList.pop.Goals as goal

pub returns-clause-last : goal.returns-clause-last
returns-clause-last g c = record { file = _; last = sym c.self.view_is ∙ c.in_ok-pop.ensures.items; given = c.into_blob.ensures }

use Rattle.std.proofs.Common.{◌∙◌}
use Rattle.server_index.proofs.AlikeLemmas.{row_alike}
use Rattle.server_index.proofs.search.copy_row.Goals as goal

pub returns : goal.returns
returns c = rw c.size.ensures (row_alike _ _ _ _ _ _ (c.in_ok-copy.ensures ∙ c.name.ensures) (c.in_ok-copy-2.ensures ∙ c.kind.ensures) _ _ _ _)

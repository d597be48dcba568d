use Rattle.search_expr.proofs.NeedLemmas.{needs_all}
use Rattle.search_expr.proofs.laws.needs_all.Goals as goal

pub returns : goal.returns
returns c = needs_all

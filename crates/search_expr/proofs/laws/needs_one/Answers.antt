use Rattle.search_expr.proofs.NeedLemmas.{needs_one}
use Rattle.search_expr.proofs.laws.needs_one.Goals as goal

pub returns : goal.returns
returns c = needs_one

use Rattle.search_expr.proofs.LimitLemmas.{read_within}
use Rattle.search_expr.proofs.laws.read_is_within.Goals as goal

pub returns : goal.returns
returns c = read_within

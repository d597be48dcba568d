use Rattle.search_expr.proofs.TakesLemmas.{read_spelled}
use Rattle.search_expr.proofs.laws.read_is_spelled.Goals as goal

pub returns : goal.returns
returns c = read_spelled

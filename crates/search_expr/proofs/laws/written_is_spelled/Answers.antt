use Rattle.search_expr.proofs.WrittenLemmas.{written}
use Rattle.search_expr.proofs.laws.written_is_spelled.Goals as goal

pub returns : goal.returns
returns c = written

use Rattle.search_expr.proofs.WrittenLemmas.{read_again}
use Rattle.search_expr.proofs.laws.spelled_is_read.Goals as goal

pub returns : goal.returns
returns c = read_again

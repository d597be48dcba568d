use Rattle.search_expr.proofs.NeedLemmas.{needs_keys}
use Rattle.search_expr.proofs.laws.needs_keys.Goals as goal

pub returns : goal.returns
returns c = needs_keys

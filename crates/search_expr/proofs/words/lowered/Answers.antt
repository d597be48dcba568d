use Rattle.std.proofs.Common.{arith}
use Rattle.search_expr.proofs.TableLemmas.{lowered_at}
use Rattle.search_expr.proofs.words.lowered.Goals as goal

pub returns : goal.returns
returns c = lowered_at c.args.byte (omega arith)

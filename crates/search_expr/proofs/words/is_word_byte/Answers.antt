use Rattle.std.proofs.Common.{arith}
use Rattle.search_expr.proofs.TableLemmas.{entry_is}
use Rattle.search_expr.proofs.words.is_word_byte.Goals as goal

pub returns : goal.returns
returns c = entry_is c.args.byte (omega arith)

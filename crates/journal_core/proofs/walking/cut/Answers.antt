use Rattle.std.proofs.Common.{arith}
use Rattle.journal_core.proofs.Steps.{is-cut}
use Rattle.journal_core.proofs.walking.cut.Goals as goal

pub returns : goal.returns
returns c = is-cut c.args.bytes.now c.read_u32-len.result c.if-bytes-lt5.false (omega arith) (omega arith) c.read_u32-len.ensures

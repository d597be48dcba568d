use Rattle.std.proofs.Common.{arith}
use Rattle.journal_core.proofs.Payloads.{not-set}
use Rattle.journal_core.proofs.payload.read_set.Goals as goal

pub returns-then-payload-count : goal.returns-then-payload-count
returns-then-payload-count c n r m = not-set n c.read_u16-count.result c.args.payload.now (omega arith) c.read_u16-count.ensures c.if-payload-count.true r m

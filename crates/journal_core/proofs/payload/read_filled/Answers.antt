use Rattle.std.proofs.Common.{arith}
use Rattle.journal_core.proofs.Payloads.{not-filled}
use Rattle.journal_core.proofs.payload.read_filled.Goals as goal

pub returns-then-payload-count : goal.returns-then-payload-count
returns-then-payload-count c n r m = not-filled n c.read_u32-count.result c.args.payload.now (omega arith) c.read_u32-count.ensures c.if-payload-count.true r m

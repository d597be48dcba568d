use Rattle.journal_core.proofs.Heads.{root-none}
use Rattle.journal_core.proofs.parsing.read_root.Goals as goal

pub returns-then-bytes-eq0 : goal.returns-then-bytes-eq0
returns-then-bytes-eq0 c = root-none c.args.bytes.now c.requires.long c.if-bytes-eq0.true

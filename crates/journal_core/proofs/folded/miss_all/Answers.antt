use Rattle.std.proofs.Common.{◌+◌, arith}
use Rattle.journal_core.proofs.Folding.{apart-at}
use Rattle.journal_core.proofs.folded.miss_all.Goals as goal

pub meets-requires : goal.meets-requires
meets-requires c =
    let at = apart-at 0 (c.args.filled.now.size + 1) c.args.spans.now c.loop-span.span-index (record { s = 0; e = 0 }) c.requires (omega arith) in
    (at.0, omega (arith, at.1))

use Rattle.std.proofs.Common.{◌<◌, ◌≤◌, length, arith}
use Rattle.search_expr.proofs.PieceLemmas.{pieces-more}
use Rattle.search_expr.proofs.pieces.piece_end.Goals as goal

pub loop-end-preserved : goal.loop-end-preserved
loop-end-preserved c = (pieces-more c.args.text.now c.args.at c.loop-end.end (omega arith) c.loop-end-test.true c.if-text-end-ne32.true c.loop-end.invariant.0, omega arith, omega arith)

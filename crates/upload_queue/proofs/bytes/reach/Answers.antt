use Rattle.std.proofs.Common.{sym}
use Rattle.upload_queue.proofs.Root.{square_root_is}
use Rattle.upload_queue.proofs.bytes.reach.Goals as goal

pub returns : goal.returns
returns c = sym (square_root_is _ _ c.isqrt.ensures.square_le c.isqrt.ensures.next_square_gt)

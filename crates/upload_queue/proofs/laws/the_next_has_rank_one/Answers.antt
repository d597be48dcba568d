use Rattle.upload_queue.proofs.Next.{next_has_rank_one}
use Rattle.upload_queue.proofs.laws.the_next_has_rank_one.Goals as goal

pub returns : goal.returns
returns c = next_has_rank_one

use Rattle.upload_queue.proofs.Next.{next_is_alone}
use Rattle.upload_queue.proofs.laws.one_alone_is_the_next.Goals as goal

pub returns : goal.returns
returns c = next_is_alone

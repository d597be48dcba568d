use Rattle.std.proofs.Common.{◌≡◌, ◌+◌, take}
use Rattle.std.specs.Prelude.{count_by}
use Rattle.upload_queue.specs.Order.{comes_before}
use Rattle.upload_queue.proofs.book.UploadBook.rank_of.Given as goal

abbrev pub invariant-loop-other : goal.invariant-loop-other
invariant-loop-other l = l.rank ≡ 1 + count_by (λ other. comes_before l.self l.now other l.entry) (take l.other-index l.self.waiting)

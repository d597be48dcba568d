use Rattle.upload_queue.proofs.Others.{KeepsOthers-ask}
use Rattle.upload_queue.proofs.book.UploadBook.ask.Goals as goal

pub returns-clause-others : goal.returns-clause-others
returns-clause-others c =
    rw (c.answer.ensures.book, c.in_ok-entry.ensures.number, c.in_ok-entry.ensures.book) (KeepsOthers-ask c.args.self.now c.args.number c.args.user c.args.now)

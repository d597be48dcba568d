use Rattle.std.proofs.Common.{◌==◌, Some, sym, ap, ◌∙◌}
use Rattle.std.specs.Prelude.{option_map, find}
use Rattle.upload_queue.specs.Book.{Book}
use Rattle.upload_queue.specs.Order.{rank_of}
use Rattle.upload_queue.specs.declared.waiting.Waiting.{Waiting}
use Rattle.upload_queue.proofs.book.UploadBook.rank.Goals as goal

pub returns : goal.returns
returns c =
    let seen = c.deref.ensures.value ∙ ap (λ (book : Book). book.waiting) c.self.view_is in
    let found = sym (ap (find (λ (entry : Waiting). entry.number == c.args.number)) seen) ∙ sym c.find.ensures ∙ c.in_ok-entry.was in
    ap Some c.rank_of.ensures ∙ sym (ap (option_map (rank_of c.args.self.now c.args.now)) found)

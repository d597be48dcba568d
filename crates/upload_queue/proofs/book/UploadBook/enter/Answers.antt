use Rattle.std.proofs.Common.{◌==◌, sym, ap, ◌∙◌}
use Rattle.std.proofs.lemmas.Bool.{eqb-true}
use Rattle.std.specs.Prelude.{find}
use Rattle.upload_queue.specs.Book.{Book, has_slot}
use Rattle.upload_queue.specs.declared.waiting.Waiting.{Waiting}
use Rattle.upload_queue.proofs.Finds.{find_added, find_passes, itself}
use Rattle.upload_queue.proofs.Sound.{IsSound-entered}
use Rattle.upload_queue.proofs.book.UploadBook.enter.Goals as goal

pub returns-in-Some-clause-number : goal.returns-in-Some-clause-number
returns-in-Some-clause-number c =
    eqb-true _ _ (find_passes (λ (entry : Waiting). entry.number == c.args.number) _ _ (sym c.find.ensures ∙ c.in-Some.is))

pub returns-clause-waits : goal.returns-clause-waits
returns-clause-waits c =
    let here = λ (entry : Waiting). entry.number == c.args.number in
    let none = ap (find here) (sym c.deref.ensures.value) ∙ sym c.find.ensures ∙ c.in_default.is in
    rw c.in_ok-enter.ensures.ok (find_added here _ _ none (itself c.args.number))

pub invariant_of-self-2 : goal.invariant_of-self-2
invariant_of-self-2 c =
    let here = λ (entry : Waiting). entry.number == c.args.number in
    let none = ap (find here) (sym c.deref.ensures.value) ∙ sym c.find.ensures ∙ c.in_default.is in
    let out = ap (λ (book : Book). has_slot book c.args.number) c.self.view_is ∙ c.requires in
    rw c.in_ok-enter.ensures.ok (IsSound-entered _ _ c.self.invariant _ out none)

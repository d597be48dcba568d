use Rattle.std.proofs.Common.{◌≡◌, ◌<◌, ◌≤◌, ◌==◌, ◌&&◌, nat_lt, length, false, sym, ap, ◌∙◌, arith}
use Rattle.std.proofs.lemmas.Bool.Decides.{nat_tests}
use Rattle.std.specs.Prelude.{Some}
use Rattle.upload_queue.specs.Book.{Book}
use Rattle.upload_queue.proofs.Asked.{ask_granted, ask_ranked}
use Rattle.upload_queue.proofs.book.UploadBook.answer.Goals as goal
use Rattle.upload_queue.proofs.book.UploadBook.answer.Goals.{else-rank-eq1-via-then-rank-eq1+else-not-is_full, else-rank-eq1-via-else-rank-eq1}

pub returns-then-not-is_full : goal.returns-then-not-is_full
returns-then-not-is_full c =
    let fits : length c.self.inside.slots.items ≤ 4 = c.is_full.ensures.fits in
    let full : false ≡ (length c.self.inside.slots.items == 4) = sym c.if-not-is_full.true ∙ c.is_full.ensures.value in
    let same : length c.args.self.now.slots ≡ length c.self.inside.slots.items = ap (λ (b : Book). length b.slots) (sym c.self.view_is) in
    let free : length c.args.self.now.slots < 4 = grind (arith, nat_tests) in
    let told = ask_granted c.args.self.now c.args.now c.args.entry.now.number c.args.entry.now c.requires.out c.requires.waits (sym c.rank_of-rank.ensures ∙ c.if-rank-eq1.true) free in
    record { place = told.0; book = c.grant.ensures.book ∙ told.1; sound = c.grant.ensures.sound }

pub returns : goal.returns
returns c =
    let same : length c.args.self.now.slots ≡ length c.self.inside.slots.items = ap (λ (b : Book). length b.slots) (sym c.self.view_is) in
    let later : (nat_lt (length c.args.self.now.slots) 4 && (c.rank_of-rank.result == 1)) ≡ false =
    elim c.else-rank-eq1.branch [
      | else-rank-eq1-via-then-rank-eq1+else-not-is_full w ↦ let full = w.is_full.ensures.value in let is = w.if-not-is_full.false in grind (arith, nat_tests)
      | else-rank-eq1-via-else-rank-eq1 w ↦ let not_first = w.if-rank-eq1.false in grind (arith, nat_tests)
    ] in
    let told = ask_ranked c.args.self.now c.args.now c.args.entry.now.number c.args.entry.now c.requires.out c.requires.waits (rw (← c.rank_of-rank.ensures) later) in
    record { place = (told.0, told.1 ∙ ap Some (sym c.rank_of-rank.ensures)); book = told.2; sound = rw (← c.self.view_is) c.self.invariant }

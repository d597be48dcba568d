use Rattle.std.proofs.Common.{◌≡◌, ◌<◌, length, ap, sym, ◌∙◌, arith}
use Rattle.upload_queue.specs.Book.{Book, IsSound, has_slot}
use Rattle.upload_queue.proofs.Sound.{IsSound-granted}
use Rattle.upload_queue.proofs.book.UploadBook.grant.Goals as goal

sound : (c : goal.After-push) → IsSound c.push.new.self.items c.leave.new.waiting.items
sound c =
    let same : length c.args.self.now.slots ≡ length c.self.inside.slots.items = ap (λ (b : Book). length b.slots) (sym c.self.view_is) in
    let room = c.requires.free in
    let free : length c.self.inside.slots.items < 4 = omega arith in
    let out = ap (λ (book : Book). has_slot book c.args.number) c.self.view_is ∙ c.requires.out in
    rw (c.push.ensures.items, c.leave.ensures) (IsSound-granted _ _ c.self.invariant c.args.number free out)

pub invariant_of-self : goal.invariant_of-self
invariant_of-self = sound

pub returns-clause-sound : goal.returns-clause-sound
returns-clause-sound = sound

use Rattle.std.proofs.Common.{ℕ, ◌≡◌, not, ◌==◌, rules, tests, filter}
use Rattle.arrayvec.proofs.ArrayVecLemmas.{filter-from_retain}
use Rattle.upload_queue.proofs.Others.{IsOut-left, KeepsOthers-left}
use Rattle.upload_queue.proofs.Sound.{IsSound-left}
use Rattle.upload_queue.proofs.book.UploadBook.leave.Goals as goal

kept : (c : goal.After-leave) → c.retain.new.self.items ≡ filter (λ (other : ℕ). not (other == c.args.number)) c.self.inside.slots.items
kept c = filter-from_retain _ (λ (other : ℕ). not (other == c.args.number)) _ (λ x b f y called. (search (rules, tests), search (rules, tests), search (rules, tests))) _ _ c.retain.ensures.filtered

pub invariant_of-self : goal.invariant_of-self
invariant_of-self c = rw (kept c, c.leave.ensures) (IsSound-left _ _ c.self.invariant c.args.number)

pub returns-clause-book : goal.returns-clause-book
returns-clause-book c = rw (kept c, c.leave.ensures, ← c.self.view_is) search rules

pub returns-clause-itself : goal.returns-clause-itself
returns-clause-itself c = rw (kept c, c.leave.ensures) (IsOut-left _ c.args.number)

pub returns-clause-others : goal.returns-clause-others
returns-clause-others c = rw (kept c, c.leave.ensures, ← c.self.view_is) (KeepsOthers-left _ c.args.number)

pub returns-clause-sound : goal.returns-clause-sound
returns-clause-sound c = rw (kept c, c.leave.ensures) (IsSound-left _ _ c.self.invariant c.args.number)

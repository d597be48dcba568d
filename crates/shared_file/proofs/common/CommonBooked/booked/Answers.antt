use Rattle.std.proofs.Common.{◌≡◌, length, ◌+◌, Bool, true, false, List, sym, ap, ◌∙◌, arith}
use Rattle.reserve_core.specs.declared.event.Entry.{Entry}
use Rattle.shared_file.specs.Notes.{noted}
use Rattle.shared_file.proofs.NoteLemmas.{noted_length}
use Rattle.shared_file.proofs.common.CommonBooked.booked.Goals as goal

pub returns-then-broken : goal.returns-then-broken
returns-then-broken g c =
    let log = c.args.self.now.file.log in
    let broken = c.args.self.now.file.broken in
    let is : broken ≡ true = sym c.broken.ensures ∙ c.if-broken.true in
    ap (λ (l : List Entry). length l + 1) c.log.ensures.log ∙ sym (ap (λ (b : Bool). length (noted log b)) is ∙ noted_length log true)

pub returns-else-broken : goal.returns-else-broken
returns-else-broken g c =
    let log = c.args.self.now.file.log in
    let broken = c.args.self.now.file.broken in
    let is : broken ≡ false = sym c.broken.ensures ∙ c.if-broken.false in
    let size : length (noted log false) ≡ length log = noted_length log false ∙ omega arith in
    ap (λ (l : List Entry). length l) c.log.ensures.log ∙ sym (ap (λ (b : Bool). length (noted log b)) is ∙ size)

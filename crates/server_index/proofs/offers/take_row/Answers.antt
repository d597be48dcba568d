use Rattle.std.proofs.Common.{◌≡◌, ℕ, List, ◌++◌, [], ◌∷◌, ◌∙◌, sym, ap, refl, ◌+◌, length, length-append, arith}
use Rattle.server_index.proofs.HeldLemmas.{held-new, held-again}
use Rattle.std.specs.Prelude.{Option, Some}
use Rattle.server_index.specs.Live.{File}
use Rattle.std.specs.BTreeMap.{insert_entry}
use Rattle.server_index.specs.Order.{spot_cmp}
use Rattle.server_index.specs.Files.{file_at}
use Rattle.server_index.specs.Offers.{held}
use Rattle.server_index.proofs.OfferLemmas.{put-undoable, put-undone, owned_put, more_hashes, new_hash, offer_taken, taken_is}
use Rattle.server_index.proofs.SweptLemmas.{swept_put, swept_refused}
use Rattle.server_index.proofs.offers.take_row.Goals as goal

pub returns-in_ok-push-2-clause-undoable : goal.returns-in_ok-push-2-clause-undoable
returns-in_ok-push-2-clause-undoable c = put-undoable c.args.changes.now.items _ (c.args.row.hash, c.args.owner.number) c.in-Ok.old c.in_ok-file.file (file_at c.args.files.now.live.entries) (file_at c.put.new.files.live.entries)
    (c.in_ok-push.ensures.items ∙ ap (λ (l : List ((List ℕ × ℕ) × Option File)). l ++ ((c.args.row.hash, c.args.owner.number), c.in-Ok.old) ∷ []) c.in_ok-reserve.ensures.items) c.in-Ok.ensures.old c.in-Ok.ensures.updates c.requires.undoable

pub returns-in_ok-push-2-clause-undone : goal.returns-in_ok-push-2-clause-undone
returns-in_ok-push-2-clause-undone c = put-undone c.args.changes.now.items _ (c.args.row.hash, c.args.owner.number) c.in-Ok.old c.in_ok-file.file (file_at c.args.files.now.live.entries) (file_at c.put.new.files.live.entries)
    (c.in_ok-push.ensures.items ∙ ap (λ (l : List ((List ℕ × ℕ) × Option File)). l ++ ((c.args.row.hash, c.args.owner.number), c.in-Ok.old) ∷ []) c.in_ok-reserve.ensures.items) c.in-Ok.ensures.old c.in-Ok.ensures.updates

pub returns-in_ok-push-2-clause-owned : goal.returns-in_ok-push-2-clause-owned
returns-in_ok-push-2-clause-owned c =
    let is : c.push-then-not-present.new.self.items ≡ c.args.hashes.now.items ++ c.args.row.hash ∷ [] = c.in_ok-push-2.ensures.items ∙ ap (λ (l : List (List ℕ)). l ++ c.args.row.hash ∷ []) c.in_ok-reserve-2.ensures.items in
    owned_put c.args.owner.number c.args.hashes.now.items _ (file_at c.args.files.now.live.entries) (file_at c.put.new.files.live.entries) (c.args.row.hash, c.args.owner.number) c.in_ok-file.file c.in-Ok.ensures.updates c.requires.owned
    (λ h e. rw is (more_hashes c.args.hashes.now.items c.args.row.hash h e)) (rw is (new_hash c.args.hashes.now.items c.args.row.hash))

pub returns-else-not-present-clause-undoable : goal.returns-else-not-present-clause-undoable
returns-else-not-present-clause-undoable c = put-undoable c.args.changes.now.items _ (c.args.row.hash, c.args.owner.number) c.in-Ok.old c.in_ok-file.file (file_at c.args.files.now.live.entries) (file_at c.put.new.files.live.entries)
    (c.in_ok-push.ensures.items ∙ ap (λ (l : List ((List ℕ × ℕ) × Option File)). l ++ ((c.args.row.hash, c.args.owner.number), c.in-Ok.old) ∷ []) c.in_ok-reserve.ensures.items) c.in-Ok.ensures.old c.in-Ok.ensures.updates c.requires.undoable

pub returns-else-not-present-clause-undone : goal.returns-else-not-present-clause-undone
returns-else-not-present-clause-undone c = put-undone c.args.changes.now.items _ (c.args.row.hash, c.args.owner.number) c.in-Ok.old c.in_ok-file.file (file_at c.args.files.now.live.entries) (file_at c.put.new.files.live.entries)
    (c.in_ok-push.ensures.items ∙ ap (λ (l : List ((List ℕ × ℕ) × Option File)). l ++ ((c.args.row.hash, c.args.owner.number), c.in-Ok.old) ∷ []) c.in_ok-reserve.ensures.items) c.in-Ok.ensures.old c.in-Ok.ensures.updates

pub returns-else-not-present-clause-owned : goal.returns-else-not-present-clause-owned
returns-else-not-present-clause-owned c =
    owned_put c.args.owner.number c.args.hashes.now.items _ (file_at c.args.files.now.live.entries) (file_at c.put.new.files.live.entries) (c.args.row.hash, c.args.owner.number) c.in_ok-file.file c.in-Ok.ensures.updates c.requires.owned
    (λ h e. rw c.in_ok-reserve-2.ensures.items e) (rw c.in_ok-reserve-2.ensures.items (c.requires.owned c.args.row.hash (sym c.contains_key-present.ensures ∙ c.if-not-present.false)))

pub returns-in_ok-push-2-clause-counted : goal.returns-in_ok-push-2-clause-counted
returns-in_ok-push-2-clause-counted c =
    let is : c.push-then-not-present.new.self.items ≡ c.args.hashes.now.items ++ c.args.row.hash ∷ [] = c.in_ok-push-2.ensures.items ∙ ap (λ (l : List (List ℕ)). l ++ c.args.row.hash ∷ []) c.in_ok-reserve-2.ensures.items in
    let now : held c.args.owner.number c.put.new.files.live.entries ≡ held c.args.owner.number c.args.files.now.live.entries + 1 = ap (held c.args.owner.number) c.in-Ok.ensures.ok
    ∙ held-new c.args.row.hash c.args.owner.number c.in_ok-file.file c.args.files.now.live.entries c.len-count.ensures.ordered _ refl (sym c.contains_key-present.ensures ∙ c.if-not-present.true) in
    ap (length {A = List ℕ}) is ∙ length-append c.args.hashes.now.items (c.args.row.hash ∷ []) ∙ ap (λ (k : ℕ). k + 1) c.requires.counted ∙ sym now

pub returns-else-not-present-clause-counted : goal.returns-else-not-present-clause-counted
returns-else-not-present-clause-counted c =
    let now : held c.args.owner.number c.put.new.files.live.entries ≡ held c.args.owner.number c.args.files.now.live.entries = ap (held c.args.owner.number) c.in-Ok.ensures.ok
    ∙ held-again c.args.owner.number (c.args.row.hash, c.args.owner.number) c.in_ok-file.file c.args.files.now.live.entries c.len-count.ensures.ordered _ refl (sym c.contains_key-present.ensures ∙ c.if-not-present.false) in
    ap (length {A = List ℕ}) c.in_ok-reserve-2.ensures.items ∙ c.requires.counted ∙ sym now

pub returns-in_ok-push-2-clause-ok : goal.returns-in_ok-push-2-clause-ok
returns-in_ok-push-2-clause-ok c = λ taken rest. offer_taken c.args.owner c.args.row taken c.args.files.now.live.entries c.put.new.files.live.entries rest (taken_is c.args.owner.number c.args.files.now.live.entries c.args.row _ _ _ c.takes.ensures c.contains_key-present.ensures (omega (arith, c.len.ensures, c.requires.counted)) ∙ c.if-not-takes.false)
    (c.in-Ok.ensures.ok ∙ ap (insert_entry spot_cmp c.args.files.now.live.entries (c.args.row.hash, c.args.owner.number)) c.in_ok-file.ensures)

pub returns-else-not-present-clause-ok : goal.returns-else-not-present-clause-ok
returns-else-not-present-clause-ok c = λ taken rest. offer_taken c.args.owner c.args.row taken c.args.files.now.live.entries c.put.new.files.live.entries rest
    (taken_is c.args.owner.number c.args.files.now.live.entries c.args.row _ _ _ c.takes.ensures c.contains_key-present.ensures (omega (arith, c.len.ensures, c.requires.counted)) ∙ c.if-not-takes.false)
    (c.in-Ok.ensures.ok ∙ ap (insert_entry spot_cmp c.args.files.now.live.entries (c.args.row.hash, c.args.owner.number)) c.in_ok-file.ensures)

pub returns-in_ok-push-2-clause-swept : goal.returns-in_ok-push-2-clause-swept
returns-in_ok-push-2-clause-swept c = swept_put (file_at c.args.files.now.live.entries) (file_at c.put.new.files.live.entries) c.args.files.now.postings.set c.put.new.files.postings.set c.args.changes.now.items _ c.args.displaced.now.items
    (c.args.row.hash, c.args.owner.number) c.in-Ok.old c.in_ok-file.file c.in-Ok.ensures.updates c.in-Ok.ensures.old
    (c.in_ok-push.ensures.items ∙ ap (λ (l : List ((List ℕ × ℕ) × Option File)). l ++ ((c.args.row.hash, c.args.owner.number), c.in-Ok.old) ∷ []) c.in_ok-reserve.ensures.items) c.in-Ok.ensures.added c.requires.swept

pub returns-else-not-present-clause-swept : goal.returns-else-not-present-clause-swept
returns-else-not-present-clause-swept c = swept_put (file_at c.args.files.now.live.entries) (file_at c.put.new.files.live.entries) c.args.files.now.postings.set c.put.new.files.postings.set c.args.changes.now.items _ c.args.displaced.now.items
    (c.args.row.hash, c.args.owner.number) c.in-Ok.old c.in_ok-file.file c.in-Ok.ensures.updates c.in-Ok.ensures.old
    (c.in_ok-push.ensures.items ∙ ap (λ (l : List ((List ℕ × ℕ) × Option File)). l ++ ((c.args.row.hash, c.args.owner.number), c.in-Ok.old) ∷ []) c.in_ok-reserve.ensures.items) c.in-Ok.ensures.added c.requires.swept

pub returns-in-Err-clause-swept : goal.returns-in-Err-clause-swept
returns-in-Err-clause-swept c =
    let spot : List ℕ × ℕ = (c.args.row.hash, c.args.owner.number) in
    rw c.in_ok-reserve.ensures.items (swept_refused (file_at c.args.files.now.live.entries) (file_at c.put.new.files.live.entries) c.args.files.now.postings.set c.put.new.files.postings.set c.args.changes.now.items c.args.displaced.now.items c.note.new.displaced.items
    spot c.in_ok-file.file (λ q. ap (λ (l : List ((List ℕ × ℕ) × File)). file_at l q) c.in-Err.ensures.err)
    (c.note.ensures.noted ∙ ap (λ (f : File). c.args.displaced.now.items ++ (spot, Some f) ∷ []) c.in-Err.ensures.back) c.in-Err.ensures.added c.requires.swept)

use Rattle.std.proofs.Common.{◌≡◌, ℕ, List, ◌∙◌, sym, ap, arith, length, ◌+◌}
use Rattle.std.proofs.lemmas.Bool.{cond-true, cond-false}
use Rattle.std.specs.Vec.Iter.{into_iter_items}
use Rattle.std.specs.Prelude.{Option}
use Rattle.search_expr.specs.declared.expr.FileRow.{FileRow}
use Rattle.server_index.specs.Live.{File}
use Rattle.server_index.specs.Found.{hashes}
use Rattle.server_index.specs.Offers.{offered, files_of, held}
use Rattle.server_index.proofs.EntryLemmas.{same_entries}
use Rattle.server_index.proofs.FileLemmas.{listed_more}
use Rattle.server_index.proofs.OfferLemmas.{begins_more, listed_alike, nil_from_length}
use Rattle.server_index.proofs.RowLemmas.{other_files}
use Rattle.server_index.specs.Files.{file_at}
use Rattle.server_index.proofs.SweptLemmas.{swept_changes}
use Rattle.server_index.proofs.offers.offer_rows.Goals as goal

pub loop-row-preserved-in-Ok-true : goal.loop-row-preserved-in-Ok-true
loop-row-preserved-in-Ok-true c = (
  tt,
  tt,
  c.take_row.ensures.kept,
  λ q h. c.take_row.ensures.grown q (c.loop-row.invariant.3 q h),
  c.take_row.ensures.undoable,
  λ q. c.take_row.ensures.undone q ∙ c.loop-row.invariant.5 q,
  c.take_row.ensures.owned,
  begins_more c.len-held.result _ _ _ c.take_row.ensures.begins c.loop-row.invariant.7 c.loop-row.invariant.8,
  omega (arith, c.loop-row.invariant.8, c.take_row.ensures.longer),
  omega (arith, c.loop-row.invariant.9, ap (length {A = FileRow}) c.in-Some.ensures.steps.0),
  λ q e. c.take_row.ensures.others q e ∙ c.loop-row.invariant.10 q e,
  c.take_row.ensures.counted,
  ap (λ (n : ℕ). offered c.args.owner n c.take_row.new.files.live.entries (into_iter_items c.next.new.self)) (sym (cond-true c.in-Ok-true.field-0 (c.loop-row.taken + 1) c.loop-row.taken c.in-Ok-true.field-0-test))
      ∙ c.in-Ok-true.ensures.ok c.loop-row.taken (into_iter_items c.next.new.self)
      ∙ ap (offered c.args.owner c.loop-row.taken c.loop-row.files.live.entries) (sym c.in-Some.ensures.steps.0)
      ∙ c.loop-row.invariant.12,
  omega (arith, ap (length {A = (List ℕ × ℕ) × Option File}) c.in-Ok-true.ensures.none, c.loop-row.invariant.13),
  omega (arith, c.loop-row.invariant.14, c.take_row.ensures.changes, ap (length {A = FileRow}) c.in-Some.ensures.steps.0),
  omega (arith, c.loop-row.invariant.15, c.take_row.ensures.room),
  c.take_row.ensures.swept,
)

pub loop-row-preserved : goal.loop-row-preserved
loop-row-preserved c = (
  tt,
  tt,
  c.take_row.ensures.kept,
  λ q h. c.take_row.ensures.grown q (c.loop-row.invariant.3 q h),
  c.take_row.ensures.undoable,
  λ q. c.take_row.ensures.undone q ∙ c.loop-row.invariant.5 q,
  c.take_row.ensures.owned,
  begins_more c.len-held.result _ _ _ c.take_row.ensures.begins c.loop-row.invariant.7 c.loop-row.invariant.8,
  omega (arith, c.loop-row.invariant.8, c.take_row.ensures.longer),
  omega (arith, c.loop-row.invariant.9, ap (length {A = FileRow}) c.in-Some.ensures.steps.0),
  λ q e. c.take_row.ensures.others q e ∙ c.loop-row.invariant.10 q e,
  c.take_row.ensures.counted,
  ap (λ (n : ℕ). offered c.args.owner n c.take_row.new.files.live.entries (into_iter_items c.next.new.self)) (sym (cond-false c.in-Ok-false.field-0 (c.loop-row.taken + 1) c.loop-row.taken c.in-Ok-false.field-0-test))
      ∙ c.in-Ok-false.ensures.ok c.loop-row.taken (into_iter_items c.next.new.self)
      ∙ ap (offered c.args.owner c.loop-row.taken c.loop-row.files.live.entries) (sym c.in-Some.ensures.steps.0)
      ∙ c.loop-row.invariant.12,
  omega (arith, ap (length {A = (List ℕ × ℕ) × Option File}) c.in-Ok-false.ensures.none, c.loop-row.invariant.13),
  omega (arith, c.loop-row.invariant.14, c.take_row.ensures.changes, ap (length {A = FileRow}) c.in-Some.ensures.steps.0),
  omega (arith, c.loop-row.invariant.15, c.take_row.ensures.room),
  c.take_row.ensures.swept,
)

pub settle-requires : goal.settle-requires
settle-requires c = record { swept = c.roll_back.ensures.noted c.take_row.new.files.postings.set c.take_row.ensures.swept; listed = listed_alike c.args.files.now.live.entries c.roll_back.new.live.entries _ (λ q. c.roll_back.ensures.restored q ∙ c.take_row.ensures.undone q ∙ c.loop-row.invariant.5 q) (listed_more c.args.files.now.live.entries c.args.files.now.postings.set c.take_row.new.files.postings.set c.requires.kept.listed (λ q h. c.take_row.ensures.grown q (c.loop-row.invariant.3 q h))) }

pub returns-in-Err-clause-owned : goal.returns-in-Err-clause-owned
returns-in-Err-clause-owned c = λ hash h.
    let same : c.truncate.new.self.items ≡ c.args.hashes.now.items = c.truncate.ensures.items ∙ begins_more c.len-held.result _ _ _ c.take_row.ensures.begins c.loop-row.invariant.7 c.loop-row.invariant.8 in
    rw same (c.requires.owned hash (rw (c.roll_back.ensures.restored (hash, c.args.owner.number) ∙ c.take_row.ensures.undone (hash, c.args.owner.number) ∙ c.loop-row.invariant.5 (hash, c.args.owner.number)) at h))

pub returns-in-Err-clause-err : goal.returns-in-Err-clause-err
returns-in-Err-clause-err c = same_entries c.roll_back.new.live.entries c.args.files.now.live.entries c.len-count-in-Err.ensures.ordered c.len-count.ensures.ordered
    (λ q. c.roll_back.ensures.restored q ∙ c.take_row.ensures.undone q ∙ c.loop-row.invariant.5 q)

pub returns-in-Err-clause-kept : goal.returns-in-Err-clause-kept
returns-in-Err-clause-kept c = record {
  listed = c.settle.ensures.listed;
  counted = c.requires.kept.counted ∙ ap (λ files. length (hashes files)) (sym (returns-in-Err-clause-err c));
}

pub returns-in-Err-clause-others : goal.returns-in-Err-clause-others
returns-in-Err-clause-others c = λ q _. c.roll_back.ensures.restored q ∙ c.take_row.ensures.undone q ∙ c.loop-row.invariant.5 q

pub returns-in-Err-clause-counted : goal.returns-in-Err-clause-counted
returns-in-Err-clause-counted c =
    let same : c.truncate.new.self.items ≡ c.args.hashes.now.items = c.truncate.ensures.items ∙ begins_more c.len-held.result _ _ _ c.take_row.ensures.begins c.loop-row.invariant.7 c.loop-row.invariant.8 in
    ap (length {A = List ℕ}) same ∙ c.requires.counted ∙ ap (held c.args.owner.number) (sym (returns-in-Err-clause-err c))

pub returns-in-Err-clause-other_files : goal.returns-in-Err-clause-other_files
returns-in-Err-clause-other_files c = λ n _. ap (files_of n) (returns-in-Err-clause-err c)

pub returns-clause-other_files : goal.returns-clause-other_files
returns-clause-other_files c = other_files c.args.owner.number c.args.files.now.live.entries c.loop-row.files.live.entries c.len-count.ensures.ordered c.len-left.ensures.ordered c.loop-row.invariant.10

pub take_row-requires-clause-room : goal.take_row-requires-clause-room
take_row-requires-clause-room c = omega (arith, c.loop-row.invariant.13, c.loop-row.invariant.15)

pub take_row-requires-clause-swept : goal.take_row-requires-clause-swept
take_row-requires-clause-swept c = c.loop-row.invariant.16

pub roll_back-requires-clause-room : goal.roll_back-requires-clause-room
roll_back-requires-clause-room c = omega (arith, c.loop-row.invariant.13, c.loop-row.invariant.14, c.loop-row.invariant.15, c.take_row.ensures.noted, c.take_row.ensures.changes, c.take_row.ensures.room, ap (length {A = FileRow}) c.in-Some.ensures.steps.0)

pub settle-requires-2-clause-swept : goal.settle-requires-2-clause-swept
settle-requires-2-clause-swept c = swept_changes (file_at c.loop-row.files.live.entries) c.loop-row.files.postings.set c.loop-row.changes.items c.loop-row.displaced.items (nil_from_length c.loop-row.displaced.items (omega (arith, c.loop-row.invariant.13))) c.loop-row.invariant.16

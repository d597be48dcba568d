use Rattle.std.proofs.Common.{◌≡◌, ◌∙◌, ◌+◌, sym, ap, true, length, arith}
use Rattle.server_index.specs.Found.{absent, hashes}
use Rattle.server_index.specs.Postings.{lists}
use Rattle.server_index.proofs.FileLemmas.{listed_more, listed_same, listed_put, ok_since}
use Rattle.server_index.proofs.HashLemmas.{count_insert, hashes_short}
use Rattle.server_index.proofs.files.put.Goals as goal

pub overflow_add-files : goal.overflow_add-files
overflow_add-files c =
    let more : length (hashes c.insert.new.self.entries) ≡ absent c.args.spot.0 c.args.files.now.live.entries + length (hashes c.args.files.now.live.entries) =
    ap (λ files. length (hashes files)) c.in-Ok.ensures.entries ∙ count_insert c.args.spot c.args.file c.args.files.now.live.entries in
    omega (arith, more, hashes_short c.insert.new.self.entries, c.requires.kept.counted, c.absent-new_hashes.ensures, c.len-count.ensures.len)

pub returns-in-Ok-clause-kept : goal.returns-in-Ok-clause-kept
returns-in-Ok-clause-kept c =
    let here : lists c.add_words.new.postings.set c.args.file.name c.args.spot ≡ true = ok_since _ _ (rw c.name.ensures at c.add_words.ensures.ok) (sym c.is_err.ensures.value ∙ c.if-is_err.false) in
    let more : length (hashes c.insert.new.self.entries) ≡ absent c.args.spot.0 c.args.files.now.live.entries + length (hashes c.args.files.now.live.entries) =
    ap (λ files. length (hashes files)) c.in-Ok.ensures.entries ∙ count_insert c.args.spot c.args.file c.args.files.now.live.entries in
    record {
      listed = listed_put c.args.files.now.live.entries c.insert.new.self.entries c.add_words.new.postings.set c.args.spot c.args.file c.in-Ok.ensures.updates.0 here (listed_more c.args.files.now.live.entries _ _ c.requires.kept.listed c.add_words.ensures.grown);
      counted = omega (arith, more, c.requires.kept.counted, c.absent-new_hashes.ensures);
    }

pub returns-then-is_err-clause-kept : goal.returns-then-is_err-clause-kept
returns-then-is_err-clause-kept c = record {
  listed = listed_more c.args.files.now.live.entries _ _ c.requires.kept.listed c.add_words.ensures.grown;
  counted = c.requires.kept.counted;
}

pub returns-in-Err-clause-kept : goal.returns-in-Err-clause-kept
returns-in-Err-clause-kept c = record {
  listed = listed_same c.args.files.now.live.entries c.insert.new.self.entries _ c.in-Err.ensures.err (listed_more c.args.files.now.live.entries _ _ c.requires.kept.listed c.add_words.ensures.grown);
  counted = c.requires.kept.counted ∙ ap (λ files. length (hashes files)) (sym c.in-Err.ensures.err);
}

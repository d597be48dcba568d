use Rattle.std.proofs.Common.{◌≡◌, ◌∙◌, ◌+◌, sym, ap, length, arith}
use Rattle.server_index.specs.Found.{absent, hashes}
use Rattle.server_index.specs.Files.{file_at}
use Rattle.server_index.proofs.FileLemmas.{listed_removed}
use Rattle.server_index.proofs.HashLemmas.{count_remove}
use Rattle.server_index.proofs.SweptLemmas.{swept_removed}
use Rattle.server_index.proofs.files.remove.Goals as goal

pub withdraw-requires : goal.withdraw-requires
withdraw-requires c = record { listed = listed_removed c.args.files.now.live.entries c.remove.new.self.entries _ c.args.spot c.remove.ensures.updates.0 c.requires.kept.listed }

pub overflow_sub-files : goal.overflow_sub-files
overflow_sub-files c =
    let fewer : length (hashes c.args.files.now.live.entries) ≡ absent c.args.spot.0 c.remove.new.self.entries + length (hashes c.remove.new.self.entries) =
    count_remove c.args.spot c.in-Some.file c.args.files.now.live.entries (sym c.in-Some.ensures.value) ∙ ap (λ files. absent c.args.spot.0 files + length (hashes files)) (sym c.remove.ensures.entries) in
    omega (arith, fewer, c.requires.kept.counted, c.absent.ensures)

pub returns-in-Some-clause-kept : goal.returns-in-Some-clause-kept
returns-in-Some-clause-kept c =
    let fewer : length (hashes c.args.files.now.live.entries) ≡ absent c.args.spot.0 c.remove.new.self.entries + length (hashes c.remove.new.self.entries) =
    count_remove c.args.spot c.in-Some.file c.args.files.now.live.entries (sym c.in-Some.ensures.value) ∙ ap (λ files. absent c.args.spot.0 files + length (hashes files)) (sym c.remove.ensures.entries) in
    record {
      listed = c.withdraw.ensures.listed;
      counted = omega (arith, fewer, c.requires.kept.counted, c.absent.ensures);
    }

pub returns-in-Some-clause-swept : goal.returns-in-Some-clause-swept
returns-in-Some-clause-swept c = swept_removed (file_at c.args.files.now.live.entries) (file_at c.remove.new.self.entries) _ _ c.args.spot c.in-Some.file
    c.remove.ensures.updates.0 (sym c.in-Some.ensures.value) c.withdraw.ensures.fewer (rw c.name.ensures at c.withdraw.ensures.gone) c.requires.swept

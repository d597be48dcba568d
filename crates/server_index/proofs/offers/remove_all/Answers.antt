use Rattle.std.proofs.Common.{◌≡◌, ◌<◌, ◌+◌, ℕ, List, [], ◌∷◌, ◌∙◌, sym, ap, refl, length, drop, get_or, arith, add-one, drop-cons}
use Rattle.std.proofs.lemmas.List.{drop_all}
use Rattle.server_index.specs.Files.{file_at}
use Rattle.server_index.specs.Offers.{cleared}
use Rattle.server_index.proofs.ClearLemmas.{clear_step, cleared_files, cleared_other, cleared_all}
use Rattle.server_index.proofs.RowLemmas.{other_files}
use Rattle.server_index.proofs.offers.remove_all.Goals as goal

pub loop-hash-preserved : goal.loop-hash-preserved
loop-hash-preserved c =
    let lt : c.loop-hash.hash-index < length c.args.hashes.now = omega arith in
    let cut : drop c.loop-hash.hash-index c.args.hashes.now ≡ get_or c.args.hashes.now c.loop-hash.hash-index [] ∷ drop (c.loop-hash.hash-index + 1) c.args.hashes.now = rw (add-one, drop-cons c.args.hashes.now c.loop-hash.hash-index []) refl in
    (c.remove.ensures.kept, λ q. clear_step c.args.number _ (drop (c.loop-hash.hash-index + 1) c.args.hashes.now) (drop c.loop-hash.hash-index c.args.hashes.now) (file_at c.loop-hash.files.live.entries) (file_at c.remove.new.files.live.entries) q cut c.remove.ensures.updates ∙ c.loop-hash.invariant.1 q, c.remove.ensures.swept)

pub returns-clause-gone : goal.returns-clause-gone
returns-clause-gone c =
    let end : drop c.loop-hash.hash-index c.args.hashes.now ≡ [] = drop_all c.loop-hash.hash-index c.args.hashes.now c.loop-hash-test.false in
    cleared_files c.args.number c.args.hashes.now c.args.files.now.live.entries c.loop-hash.files.live.entries c.requires.owned c.len-count.ensures.ordered c.len-left.ensures.ordered
    (λ q. ap (λ (l : List (List ℕ)). cleared c.args.number l (file_at c.loop-hash.files.live.entries) q) (sym end) ∙ c.loop-hash.invariant.1 q)

pub returns-clause-others : goal.returns-clause-others
returns-clause-others c =
    let end : drop c.loop-hash.hash-index c.args.hashes.now ≡ [] = drop_all c.loop-hash.hash-index c.args.hashes.now c.loop-hash-test.false in
    λ q e. ap (λ (l : List (List ℕ)). cleared c.args.number l (file_at c.loop-hash.files.live.entries) q) (sym end) ∙ c.loop-hash.invariant.1 q ∙ cleared_other c.args.number c.args.hashes.now (file_at c.args.files.now.live.entries) q e

pub returns-clause-none : goal.returns-clause-none
returns-clause-none c =
    let end : drop c.loop-hash.hash-index c.args.hashes.now ≡ [] = drop_all c.loop-hash.hash-index c.args.hashes.now c.loop-hash-test.false in
    λ q e. ap (λ (l : List (List ℕ)). cleared c.args.number l (file_at c.loop-hash.files.live.entries) q) (sym end) ∙ c.loop-hash.invariant.1 q ∙ cleared_all c.args.number c.args.hashes.now c.args.files.now.live.entries c.requires.owned q e (file_at c.args.files.now.live.entries q) refl

pub returns-clause-other_files : goal.returns-clause-other_files
returns-clause-other_files c = other_files c.args.number c.args.files.now.live.entries c.loop-hash.files.live.entries c.len-count.ensures.ordered c.len-left.ensures.ordered (returns-clause-others c)

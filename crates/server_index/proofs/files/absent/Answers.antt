use Rattle.std.proofs.Common.{◌≡◌, ◌∙◌, sym, ap, List, ℕ, []}
use Rattle.std.specs.Prelude.{filter}
use Rattle.server_index.specs.Live.{File}
use Rattle.server_index.specs.Found.{has_hash}
use Rattle.server_index.proofs.EntryLemmas.{sorted_filter}
use Rattle.server_index.proofs.HashLemmas.{absent_at, absent_none}
use Rattle.server_index.proofs.SourceLemmas.{from_hash, hash_from, hash_inside, all_from, none_at}
use Rattle.server_index.proofs.files.absent.Goals as goal

pub returns-then-eq : goal.returns-then-eq
returns-then-eq c =
    let x : (List ℕ × ℕ) × File = (c.in-Some.spot.now, c.in-Some.field-0-1.now) in
    let hash = c.args.hash.now in
    let es = c.args.live.now.entries in
    sym (absent_at hash x (filter (from_hash hash) es) c.next.new.self es (sym (c.range.ensures.between tt) ∙ c.in-Some.ensures.steps) (hash_inside hash (from_hash hash) (hash_from hash) es) (sym c.eq.ensures ∙ c.if-eq.true))

pub returns-else-eq : goal.returns-else-eq
returns-else-eq c =
    let x : (List ℕ × ℕ) × File = (c.in-Some.spot.now, c.in-Some.field-0-1.now) in
    let hash = c.args.hash.now in
    let es = c.args.live.now.entries in
    sym (absent_none hash (filter (from_hash hash) es) es
    (none_at hash x (filter (from_hash hash) es) c.next.new.self (sym (c.range.ensures.between tt) ∙ c.in-Some.ensures.steps) (sorted_filter (from_hash hash) es c.range.ensures.ordered) (all_from hash es) (sym c.eq.ensures ∙ c.if-eq.false))
    (hash_inside hash (from_hash hash) (hash_from hash) es))

pub returns-in-None : goal.returns-in-None
returns-in-None c =
    let hash = c.args.hash.now in
    let es = c.args.live.now.entries in
    let none : filter (from_hash hash) es ≡ [] = sym (c.range.ensures.between tt) ∙ c.in-None.ensures.steps.0 in
    sym (absent_none hash (filter (from_hash hash) es) es (ap (filter (has_hash hash)) none) (hash_inside hash (from_hash hash) (hash_from hash) es))

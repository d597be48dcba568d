use Rattle.std.proofs.Common.{rules}
use Rattle.std.proofs.lemmas.List.Sorted.{answers_always}
use Rattle.reserve_core.proofs.HolderEdits.{searched}
use Rattle.reserve_core.proofs.holders.find.Goals as goal

pub returns-clause-found : goal.returns-clause-found
returns-clause-found c =
    let facts = c.binary_search_by_key.ensures in
    let by_key = facts.position (λ holder. holder.peer) (answers_always _ _ _ (λ f a r g called. search rules)) in
    (searched _ _ c.requires _ facts.bound by_key).0

pub returns-clause-absent : goal.returns-clause-absent
returns-clause-absent c =
    let facts = c.binary_search_by_key.ensures in
    let by_key = facts.position (λ holder. holder.peer) (answers_always _ _ _ (λ f a r g called. search rules)) in
    (searched _ _ c.requires _ facts.bound by_key).1

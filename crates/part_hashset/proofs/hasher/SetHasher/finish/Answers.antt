use Rattle.std.proofs.Common.{◌≡◌, ◌<◌, ◌∷◌, ◌++◌, ℕ, [], List, vec_len, arith, ap, ◌∙◌}
use Rattle.std.proofs.lemmas.Bool.Decides.{nat_tests}
use Rattle.md4_hash.specs.Md4.{md4}
use Rattle.part_hashset.specs.HashSet.{ed2k, set_of, joined}
use Rattle.part_hashset.proofs.WholeParts.{small-hash, small-set, large-hash, large-set}
use Rattle.part_hashset.proofs.hasher.SetHasher.finish.Goals as goal

pub returns-then-is_empty-clause-hash : goal.returns-then-is_empty-clause-hash
returns-then-is_empty-clause-hash c =
    let none : vec_len c.self.inside.members ≡ 0 = grind (arith, nat_tests) in
    c.finalize-last.ensures
    ∙ small-hash c.self.inside.members.items _ _ _ c.self.invariant (omega arith)
    ∙ ap ed2k c.self.view_is

pub returns-then-is_empty-clause-set : goal.returns-then-is_empty-clause-set
returns-then-is_empty-clause-set c =
    let none : vec_len c.self.inside.members ≡ 0 = grind (arith, nat_tests) in
    c.new.ensures
    ∙ c.reserve.ensures.items
    ∙ small-set c.self.inside.members.items _ _ _ c.self.invariant (omega arith)
    ∙ ap set_of c.self.view_is

pub returns-clause-hash : goal.returns-clause-hash
returns-clause-hash c =
    let some : 0 < vec_len c.self.inside.members = grind (arith, nat_tests) in
    let set = c.push_reserved.ensures.items ∙ ap (λ (m : List (List ℕ)). m ++ c.finalize-last.result ∷ []) c.reserve.ensures.items in
    let last = ap (λ (hash : List ℕ). c.self.inside.members.items ++ hash ∷ []) c.finalize-last.ensures in
    c.joined_hash.ensures
    ∙ ap (λ (members : List (List ℕ)). md4 (joined members)) (c.deref.ensures.value ∙ set ∙ last)
    ∙ large-hash c.self.inside.members.items _ _ _ c.self.invariant (omega arith)
    ∙ ap ed2k c.self.view_is

pub returns-clause-set : goal.returns-clause-set
returns-clause-set c =
    let some : 0 < vec_len c.self.inside.members = grind (arith, nat_tests) in
    let set = c.push_reserved.ensures.items ∙ ap (λ (m : List (List ℕ)). m ++ c.finalize-last.result ∷ []) c.reserve.ensures.items in
    let last = ap (λ (hash : List ℕ). c.self.inside.members.items ++ hash ∷ []) c.finalize-last.ensures in
    c.new-2.ensures ∙ set ∙ last
    ∙ large-set c.self.inside.members.items _ _ _ c.self.invariant (omega arith)
    ∙ ap set_of c.self.view_is

use Rattle.std.proofs.Common.{◌≡◌, ◌∙◌, ◌++◌, [], ◌∷◌, ap, subst, sym, arith, rules, length, slice_index}
use Rattle.std.proofs.lemmas.Fn.{always_returns_same}
use Rattle.std.proofs.lemmas.List.Sorted.{IsNonDecreasingBy-from_sort}
use Rattle.std.specs.List.{range_with_len}
use Rattle.std.specs.List.Sorted.{IsPermutation, IsStableByKey}
use Rattle.std.specs.Ordering.{nat_cmp}
use Rattle.part_picker.proofs.Sorted.{by_key-from_sort, ascends-from_sort, range_push, all_below}
use Rattle.part_picker.proofs.parts.order.Goals as goal

pub loop-part-preserved : goal.loop-part-preserved
loop-part-preserved c =
    c.in_ok-push.ensures.items ∙ ap (λ l. l ++ c.loop-part.part ∷ []) c.loop-part.invariant ∙ sym (range_push c.loop-part.part)

pub returns-clause-by_count : goal.returns-clause-by_count
returns-clause-by_count c =
    let counts = c.args.counts.now in
    let key = slice_index counts in
    let whole : c.loop-part.parts.items ≡ range_with_len 0 (length counts) = c.loop-part.invariant ∙ ap (range_with_len 0) (omega arith) in
    let keys = always_returns_same _ (λ a r. r ≡ key a.0.now) _ (λ a r next called. search rules) in
    let stable = subst (λ xs. IsStableByKey key nat_cmp xs c.sort_by_key.new.self.items) whole (c.in_ok-sort_by_key.ensures.stable key keys) in
    let moved = subst (λ xs. IsPermutation xs c.sort_by_key.new.self.items) whole c.in_ok-sort_by_key.ensures.permutation in
    let sorted = IsNonDecreasingBy-from_sort key _ (c.in_ok-sort_by_key.ensures.sorted key keys) in
    λ bound below. by_key-from_sort key bound _ _ sorted stable (all_below counts bound _ moved below)

pub returns-clause-sorted : goal.returns-clause-sorted
returns-clause-sorted c =
    let counts = c.args.counts.now in
    let key = slice_index counts in
    let whole : c.loop-part.parts.items ≡ range_with_len 0 (length counts) = c.loop-part.invariant ∙ ap (range_with_len 0) (omega arith) in
    let keys = always_returns_same _ (λ a r. r ≡ key a.0.now) _ (λ a r next called. search rules) in
    let stable = subst (λ xs. IsStableByKey key nat_cmp xs c.sort_by_key.new.self.items) whole (c.in_ok-sort_by_key.ensures.stable key keys) in
    let sorted = IsNonDecreasingBy-from_sort key _ (c.in_ok-sort_by_key.ensures.sorted key keys) in
    ascends-from_sort key (length counts) _ sorted stable

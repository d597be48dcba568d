use Rattle.std.proofs.Common.{◌≡◌, ◌<◌, ◌+◌, ◌-◌, ◌*◌, length, arith, ap, ◌∙◌, ℕ, List, take, drop}
use Rattle.part_sizes.specs.Part.{data_parts}
use Rattle.part_sizes.specs.Block.{block_count}
use Rattle.aich_tree.specs.Leaves.{leaf_count, part_leaves}
use Rattle.aich_tree.proofs.LeafLemmas.{length-leaves_of}
use Rattle.aich_tree.proofs.PlaceLemmas.{part_leaves-fit, part_leaves-slice}
use Rattle.aich_tree.proofs.nodes.Tree.leaves.Goals as goal

pub slice_bounds-leaves-end : goal.slice_bounds-leaves-end
slice_bounds-leaves-end c =
    let bytes = c.self.inside.fed.bytes in
    let exists : c.args.part < data_parts (length bytes) = rw c.self.view_is c.requires in
    let long : length c.deref.result.now ≡ leaf_count (length bytes) =
    ap length (c.deref.ensures.value ∙ c.self.invariant.leaves_are) ∙ length-leaves_of bytes in
    let fit = part_leaves-fit (length bytes) c.args.part exists in
    let count : c.block_count.result ≡ block_count (length bytes) c.args.part =
    c.block_count.ensures.value ∙ ap (λ (n : ℕ). block_count n c.args.part) c.self.invariant.counted in
    omega (arith, long, fit, count, c.from.ensures, c.from-count.ensures)

pub returns : goal.returns
returns c =
    let bytes = c.self.inside.fed.bytes in
    let part = c.args.part in
    let exists : part < data_parts (length bytes) = rw c.self.view_is c.requires in
    let start : c.from.result * 53 ≡ part * 53 = ap (λ (n : ℕ). n * 53) c.from.ensures in
    let count : c.block_count.result ≡ block_count (length bytes) part =
    c.block_count.ensures.value ∙ ap (λ (n : ℕ). block_count n part) c.self.invariant.counted in
    let width : c.from.result * 53 + c.from-count.result - c.from.result * 53 ≡ block_count (length bytes) part =
    omega (arith, count, c.from-count.ensures) in
    c.new.ensures
    ∙ c.in_ok-from_slice.ensures.items
    ∙ ap (λ (n : ℕ). take n (drop (c.from.result * 53) c.deref.result.now)) width
    ∙ ap (λ (n : ℕ). take (block_count (length bytes) part) (drop n c.deref.result.now)) start
    ∙ ap (λ (leaves : List (List ℕ)). take (block_count (length bytes) part) (drop (part * 53) leaves)) (c.deref.ensures.value ∙ c.self.invariant.leaves_are)
    ∙ part_leaves-slice bytes part exists
    ∙ ap (λ (whole : List ℕ). part_leaves whole part) c.self.view_is

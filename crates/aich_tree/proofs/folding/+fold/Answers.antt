use Rattle.std.proofs.Common.{◌≡◌, ℕ, ◌<◌, true, List, [], ◌++◌, length, take, drop, get_or, arith, sym, ap, ◌∙◌, length-drop}
use Rattle.std.proofs.lemmas.List.{length-take-le}
use Rattle.sha1.specs.Sha1.{sha1}
use Rattle.part_sizes.specs.declared.block.TheConstants.{BLOCK}
use Rattle.aich_tree.specs.Leaves.{leaf_count, leaves_of}
use Rattle.aich_tree.specs.Tree.{left_bytes, tree}
use Rattle.aich_tree.proofs.Division.{left_bytes-proper}
use Rattle.aich_tree.proofs.LeafLemmas.{leaves_of-one}
use Rattle.aich_tree.proofs.PlaceLemmas.{first_leaves, second_leaves}
use Rattle.aich_tree.proofs.TreeLemmas.{tree-leaf, tree-branch}
use Rattle.aich_tree.proofs.folding.+fold.Goals as goal

pub returns-then-n-le-BLOCK : goal.returns-then-n-le-BLOCK
returns-then-n-le-BLOCK t c = λ bytes count same.
    ap (λ (leaves : List (List ℕ)). get_or leaves 0 []) (same ∙ leaves_of-one bytes (omega (arith, count, c.requires.size.0)) (omega (arith, count)))
    ∙ sym (tree-leaf bytes c.args.left (omega (arith, count)))

pub returns : goal.returns
returns t c = λ bytes count same.
    let left = c.args.left in
    let leaves = c.args.leaves.now in
    let large : BLOCK < length bytes = omega (arith, count) in
    let m = left_bytes (length bytes) left in
    let middle : c.left_bytes-middle.result ≡ m = c.left_bytes-middle.ensures.value ∙ ap (λ (n : ℕ). left_bytes n left) (sym count) in
    let proper : m < length bytes = left_bytes-proper (length bytes) left large in
    let cut : c.leaf_count.result ≡ leaf_count m = c.leaf_count.ensures ∙ ap leaf_count middle in
    let front : c.split_at.result.0.now ≡ leaves_of (take m bytes) =
    c.split_at.ensures.front
    ∙ ap (λ (n : ℕ). take n leaves) cut
    ∙ ap (λ (all : List (List ℕ)). take (leaf_count m) all) same
    ∙ first_leaves bytes left large in
    let back : c.split_at.result.1.now ≡ leaves_of (drop m bytes) =
    c.split_at.ensures.back
    ∙ ap (λ (n : ℕ). drop n leaves) cut
    ∙ ap (λ (all : List (List ℕ)). drop (leaf_count m) all) same
    ∙ second_leaves bytes left large in
    let long = length-take-le m bytes (omega (arith, proper)) in
    let first = c.fold-first.ensures (take m bytes) (long ∙ sym middle) front in
    let second = c.fold-second.ensures (drop m bytes) (omega (arith, length-drop m bytes, middle, count)) back in
    c.join.ensures
    ∙ ap (λ (hash : List ℕ). sha1 (hash ++ c.fold-second.result)) first
    ∙ ap (λ (hash : List ℕ). sha1 (tree (take m bytes) true ++ hash)) second
    ∙ sym (tree-branch bytes left large)

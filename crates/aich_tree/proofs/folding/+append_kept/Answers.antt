use Rattle.std.proofs.Common.{◌≡◌, ℕ, ◌-◌, ◌<◌, true, false, List, [], ◌∷◌, ◌++◌, length, take, drop, append_assoc, arith, sym, ap, ◌∙◌, length-drop}
use Rattle.std.proofs.lemmas.List.{length-take-le}
use Rattle.sha1.specs.Sha1.{sha1}
use Rattle.part_sizes.specs.declared.block.TheConstants.{BLOCK}
use Rattle.aich_tree.specs.Kept.{kept_of}
use Rattle.aich_tree.specs.Leaves.{leaf_count, leaves_of}
use Rattle.aich_tree.specs.Tree.{left_bytes, tree}
use Rattle.aich_tree.proofs.Division.{left_bytes-proper}
use Rattle.aich_tree.proofs.KeptLemmas.{kept_of-part, kept_of-above}
use Rattle.aich_tree.proofs.PlaceLemmas.{first_leaves, second_leaves}
use Rattle.aich_tree.proofs.TreeLemmas.{tree-branch}
use Rattle.aich_tree.proofs.folding.+append_kept.Goals as goal

pub returns-then-n-le-PART-clause-kept : goal.returns-then-n-le-PART-clause-kept
returns-then-n-le-PART-clause-kept t c = λ bytes count same.
    c.push_reserved.ensures.items
    ∙ ap (λ (hash : List ℕ). c.args.out.now.items ++ hash ∷ []) (c.fold-hash.ensures bytes count same)
    ∙ ap (λ (nodes : List (List ℕ)). c.args.out.now.items ++ nodes) (sym (kept_of-part bytes c.args.left (omega (arith, count))))

-- what is found of both children
record Children (n : ℕ) (middle : ℕ) (front behind : List (List ℕ)) (bytes : List ℕ) (m : ℕ) : Type 0 where
  pub middle_is : middle ≡ m
  pub first_count : length (take m bytes) ≡ middle
  pub second_count : length (drop m bytes) ≡ n - middle
  pub first : front ≡ leaves_of (take m bytes)
  pub second : behind ≡ leaves_of (drop m bytes)

children : (t : ℕ) (c : goal.After-push_reserved-2 t) (bytes : List ℕ) → length bytes ≡ c.args.n → c.args.leaves.now ≡ leaves_of bytes
    → Children c.args.n c.left_bytes-middle.result c.split_at.result.0.now c.split_at.result.1.now bytes (left_bytes (length bytes) c.args.left)
children t c bytes count same =
    let left = c.args.left in
    let leaves = c.args.leaves.now in
    let large : BLOCK < length bytes = omega (arith, count, c.if-n-le-PART.false) in
    let m = left_bytes (length bytes) left in
    let middle : c.left_bytes-middle.result ≡ m = c.left_bytes-middle.ensures.value ∙ ap (λ (n : ℕ). left_bytes n left) (sym count) in
    let proper : m < length bytes = left_bytes-proper (length bytes) left large in
    let cut : c.leaf_count.result ≡ leaf_count m = c.leaf_count.ensures ∙ ap leaf_count middle in
    record {
      middle_is = middle;
      first_count = length-take-le m bytes (omega (arith, proper)) ∙ sym middle;
      second_count = omega (arith, length-drop m bytes, middle, count);
      first =
          c.split_at.ensures.front
          ∙ ap (λ (n : ℕ). take n leaves) cut
          ∙ ap (λ (all : List (List ℕ)). take (leaf_count m) all) same
          ∙ first_leaves bytes left large;
      second =
          c.split_at.ensures.back
          ∙ ap (λ (n : ℕ). drop n leaves) cut
          ∙ ap (λ (all : List (List ℕ)). drop (leaf_count m) all) same
          ∙ second_leaves bytes left large;
    }

own : (t : ℕ) (c : goal.After-push_reserved-2 t) (bytes : List ℕ) → length bytes ≡ c.args.n → c.args.leaves.now ≡ leaves_of bytes → c.join-hash.result ≡ tree bytes c.args.left
own t c bytes count same =
    let m = left_bytes (length bytes) c.args.left in
    let both = children t c bytes count same in
    let first = c.append_kept-first.ensures.own (take m bytes) both.first_count both.first in
    let second = c.append_kept-second.ensures.own (drop m bytes) both.second_count both.second in
    c.join-hash.ensures
    ∙ ap (λ (hash : List ℕ). sha1 (hash ++ c.append_kept-second.result)) first
    ∙ ap (λ (hash : List ℕ). sha1 (tree (take m bytes) true ++ hash)) second
    ∙ sym (tree-branch bytes c.args.left (omega (arith, count, c.if-n-le-PART.false)))

pub returns-clause-own : goal.returns-clause-own
returns-clause-own t c = own t c

pub returns-clause-kept : goal.returns-clause-kept
returns-clause-kept t c = λ bytes count same.
    let m = left_bytes (length bytes) c.args.left in
    let old = c.args.out.now.items in
    let both = children t c bytes count same in
    let left = kept_of (take m bytes) true in
    let right = kept_of (drop m bytes) false in
    c.push_reserved-2.ensures.items
    ∙ ap (λ (items : List (List ℕ)). items ++ c.join-hash.result ∷ []) (c.append_kept-second.ensures.kept (drop m bytes) both.second_count both.second)
    ∙ ap (λ (items : List (List ℕ)). (items ++ right) ++ c.join-hash.result ∷ []) (c.append_kept-first.ensures.kept (take m bytes) both.first_count both.first)
    ∙ ap (λ (hash : List ℕ). ((old ++ left) ++ right) ++ hash ∷ []) (own t c bytes count same)
    ∙ ap (λ (items : List (List ℕ)). items ++ tree bytes c.args.left ∷ []) (append_assoc old left right)
    ∙ append_assoc old (left ++ right) (tree bytes c.args.left ∷ [])
    ∙ ap (λ (nodes : List (List ℕ)). old ++ nodes) (sym (kept_of-above bytes c.args.left (omega (arith, count, c.if-n-le-PART.false))))

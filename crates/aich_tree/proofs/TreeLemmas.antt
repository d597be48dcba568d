-- A node's hash does not depend on the number of levels that are allowed, where there are enough.
use Rattle.std.proofs.Common.{arith, ◌≡◌, ℕ, zero, suc, ◌<◌, ◌≤◌, Bool, true, false, List, ◌++◌, length, take, drop, refl, sym, ap, ◌∙◌, inl, inr, length-drop}
use Rattle.std.proofs.lemmas.Bool.{cases_lt}
use Rattle.std.proofs.lemmas.List.{length-take-le}
use Rattle.sha1.specs.Sha1.{sha1}
use Rattle.part_sizes.specs.declared.block.TheConstants.{BLOCK}
use Rattle.aich_tree.specs.Tree.{tree, tree_within, left_bytes}
use Rattle.aich_tree.specs.TreeLaws.{LeavesHashBytes, BranchesHashChildren}
use Rattle.aich_tree.proofs.Division.{left_bytes-some, left_bytes-proper, leaf-test, branch-test}

abbrev first : List ℕ → Bool → List ℕ
first bytes left = take (left_bytes (length bytes) left) bytes

abbrev second : List ℕ → Bool → List ℕ
second bytes left = drop (left_bytes (length bytes) left) bytes

length-first : (bytes : List ℕ) (left : Bool) → BLOCK < length bytes → length (first bytes left) < length bytes
length-first bytes left large =
    let proper = left_bytes-proper (length bytes) left large in
    let long = length-take-le (left_bytes (length bytes) left) bytes (omega arith) in
    omega (arith, proper, long)

length-second : (bytes : List ℕ) (left : Bool) → BLOCK < length bytes → length (second bytes left) < length bytes
length-second bytes left large =
    omega (arith, left_bytes-some (length bytes) left large, length-drop (left_bytes (length bytes) left) bytes)

within-leaf : (levels : ℕ) (bytes : List ℕ) (left : Bool) → length bytes ≤ BLOCK → tree_within levels bytes left ≡ sha1 bytes
unfolding tree_within
within-leaf zero bytes left small = refl
within-leaf (suc levels) bytes left small = rw (leaf-test (length bytes) small) refl

within-branch : (levels : ℕ) (bytes : List ℕ) (left : Bool) → BLOCK < length bytes
    → tree_within (suc levels) bytes left ≡ sha1 (tree_within levels (first bytes left) true ++ tree_within levels (second bytes left) false)
unfolding tree_within
within-branch levels bytes left large = rw (branch-test (length bytes) large) refl

enough : (levels others : ℕ) (bytes : List ℕ) (left : Bool) → length bytes ≤ levels → length bytes ≤ others → tree_within levels bytes left ≡ tree_within others bytes left
enough zero others bytes left fits fits' =
    within-leaf zero bytes left (omega arith) ∙ sym (within-leaf others bytes left (omega arith))
enough (suc levels) zero bytes left fits fits' =
    within-leaf (suc levels) bytes left (omega arith) ∙ sym (within-leaf zero bytes left (omega arith))
enough (suc levels) (suc others) bytes left fits fits' =
    elim (cases_lt BLOCK (length bytes)) [
      | inl large ↦
          let shorter = length-first bytes left large in
          let shorter' = length-second bytes left large in
          within-branch levels bytes left large
          ∙ ap (λ (hash : List ℕ). sha1 (hash ++ tree_within levels (second bytes left) false))
          (enough levels others (first bytes left) true (omega arith) (omega arith))
          ∙ ap (λ (hash : List ℕ). sha1 (tree_within others (first bytes left) true ++ hash))
          (enough levels others (second bytes left) false (omega arith) (omega arith))
          ∙ sym (within-branch others bytes left large)
      | inr small ↦ within-leaf (suc levels) bytes left small ∙ sym (within-leaf (suc others) bytes left small)
    ]

pub tree-leaf : LeavesHashBytes
unfolding tree
tree-leaf bytes left small = within-leaf (length bytes) bytes left small

-- with any number of levels that is enough, a branch is the hash of its children
from_levels : (levels : ℕ) (bytes : List ℕ) (left : Bool) → length bytes ≡ suc levels → BLOCK < length bytes
    → tree bytes left ≡ sha1 (tree (first bytes left) true ++ tree (second bytes left) false)
unfolding tree
from_levels levels bytes left count large =
    let shorter = length-first bytes left large in
    let shorter' = length-second bytes left large in
    ap (λ (n : ℕ). tree_within n bytes left) count
    ∙ within-branch levels bytes left large
    ∙ ap (λ (hash : List ℕ). sha1 (hash ++ tree_within levels (second bytes left) false))
    (enough levels (length (first bytes left)) (first bytes left) true (omega arith) (omega arith))
    ∙ ap (λ (hash : List ℕ). sha1 (tree (first bytes left) true ++ hash))
    (enough levels (length (second bytes left)) (second bytes left) false (omega arith) (omega arith))

before : (n : ℕ) → 0 < n → (levels : ℕ) × (n ≡ suc levels)
before zero some = absurd (omega arith)
before (suc levels) some = (levels, refl)

pub tree-branch : BranchesHashChildren
tree-branch bytes left large =
    let levels = before (length bytes) (omega arith) in
    from_levels levels.0 bytes left levels.1 large

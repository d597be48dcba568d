-- The nodes on the way to a part, and their positions.
use Rattle.std.proofs.Common.{arith, ◌≡◌, ℕ, zero, suc, ◌+◌, ◌-◌, ◌*◌, ◌/◌, ◌%◌, ◌<◌, ◌≤◌, Bool, true, false, nat_eq, if◌then◌else◌, List, [], ◌∷◌, ◌++◌, Option, Some, None, option_and_then, refl, sym, ap, subst, ◌∙◌, eq-eqb, ne_eqb, inl, inr}
use Rattle.std.specs.List.{AllByRecursion, IsDistinct}
use Rattle.std.proofs.lemmas.Bool.{cases_lt}
use Rattle.part_sizes.specs.declared.span.Span.{Span}
use Rattle.part_sizes.specs.declared.part.TheConstants.{PART}
use Rattle.part_sizes.specs.declared.block.TheConstants.{BLOCK}
use Rattle.aich_tree.specs.Ident.{child_range, is_left, node_range}
use Rattle.aich_tree.specs.Tree.{is_leaf, left_bytes}
use Rattle.aich_tree.proofs.Division.{branch-test, left_bytes-some, left_bytes-proper}
use Rattle.aich_tree.proofs.IdentLemmas.{node_range-root, node_range-child}
use Rattle.aich_packet.specs.declared.node.Node.{Node}
use Rattle.aich_packet.specs.declared.way.TheConstants.{BLOCK_LEVELS}
use Rattle.aich_packet.specs.Way.{root_of, size_of, middle, left_child, right_child, leaf_idents, part_node, siblings}
use Rattle.aich_packet.proofs.Distinct.{all-append, all-map, distinct-append, distinct-cons, distinct-one}
use Rattle.aich_packet.proofs.Routes.{leaf_idents-none, leaf_idents-leaf, leaf_idents-branch, siblings-none, siblings-part, siblings-left, siblings-right, part_node-none, part_node-part, part_node-left, part_node-right}

-- a node of the tree over a file of this size
pub record IsNode (size : ℕ) (node : Node) : Type 0 where
  pub named : node_range size node.ident ≡ Some node.span
  pub some : node.span.s < node.span.e
  pub within : node.span.e ≤ size
  pub ident : 1 ≤ node.ident

pub root-node : (size : ℕ) → 1 ≤ size → IsNode size (root_of size)
root-node size some =
    record {
      named = node_range-root size;
      some = some;
      within = omega arith;
      ident = omega arith;
    }

-- ---- children

-- the positions of a child with half of this identifier, as a left child or not
abbrev range_at : ℕ → Bool → ℕ → ℕ → Option Span
range_at half left s e =
    if is_leaf (e - s) then None
    else
    let m = s + left_bytes (e - s) (is_left half) in
    if left then Some (record { s = s; e = m }) else Some (record { s = m; e = e })

left-range : (i half s e : ℕ) (left : Bool) → BLOCK < e - s → half ≡ i → left ≡ true
    → range_at half left s e ≡ Some (record { s = s; e = s + left_bytes (e - s) (is_left i) })
left-range i half s e left large halved odd = rw (branch-test (e - s) large, halved, odd) refl

right-range : (i half s e : ℕ) (left : Bool) → BLOCK < e - s → half ≡ i → left ≡ false
    → range_at half left s e ≡ Some (record { s = s + left_bytes (e - s) (is_left i); e = e })
right-range i half s e left large halved even = rw (branch-test (e - s) large, halved, even) refl

pub left-node : (size : ℕ) (node : Node) → IsNode size node → BLOCK < size_of node → IsNode size (left_child node)
left-node size node is large =
    let i = node.ident in
    let above : 1 < 2 * i + 1 = omega (arith, is.ident) in
    let halved : (2 * i + 1) / 2 ≡ i = omega arith in
    let odd : is_left (2 * i + 1) ≡ true = eq-eqb ((2 * i + 1) % 2) 1 (omega arith) in
    let some = left_bytes-some (size_of node) (is_left i) large in
    let proper = left_bytes-proper (size_of node) (is_left i) large in
    record {
      named =
          node_range-child size (2 * i + 1) above
          ∙ ap (λ (j : ℕ). option_and_then (child_range (2 * i + 1)) (node_range size j)) halved
          ∙ ap (option_and_then (child_range (2 * i + 1))) is.named
          ∙ left-range i ((2 * i + 1) / 2) node.span.s node.span.e (is_left (2 * i + 1)) large halved odd;
      some = omega (arith, some);
      within = omega (arith, proper, is.within);
      ident = omega arith;
    }

pub right-node : (size : ℕ) (node : Node) → IsNode size node → BLOCK < size_of node → IsNode size (right_child node)
right-node size node is large =
    let i = node.ident in
    let above : 1 < 2 * i = omega (arith, is.ident) in
    let halved : 2 * i / 2 ≡ i = omega arith in
    let even : is_left (2 * i) ≡ false = ne_eqb (2 * i % 2) 1 (λ e. omega (arith, e)) in
    let some = left_bytes-some (size_of node) (is_left i) large in
    let proper = left_bytes-proper (size_of node) (is_left i) large in
    record {
      named =
          node_range-child size (2 * i) above
          ∙ ap (λ (j : ℕ). option_and_then (child_range (2 * i)) (node_range size j)) halved
          ∙ ap (option_and_then (child_range (2 * i))) is.named
          ∙ right-range i (2 * i / 2) node.span.s node.span.e (is_left (2 * i)) large halved even;
      some = omega (arith, proper);
      within = is.within;
      ident = omega (arith, is.ident);
    }

-- the middle lies within
pub middle-low : (node : Node) → BLOCK < size_of node → node.span.s < middle node
middle-low node large = omega (arith, left_bytes-some (size_of node) (is_left node.ident) large)

pub middle-high : (node : Node) → BLOCK < size_of node → middle node < node.span.e
middle-high node large = omega (arith, left_bytes-proper (size_of node) (is_left node.ident) large)

-- ---- the nodes with these identifiers stand apart

-- a node with this identifier stands within these positions
pub record StandsIn (size low high ident : ℕ) : Type 0 where
  pub span : Span
  pub named : node_range size ident ≡ Some span
  pub from : low ≤ span.s
  pub some : span.s < span.e
  pub upto : span.e ≤ high

pub wider : (size low high low' high' : ℕ) → low' ≤ low → high ≤ high' → (x : ℕ) → StandsIn size low high x → StandsIn size low' high' x
wider size low high low' high' down up x here =
    record {
      span = here.span;
      named = here.named;
      from = omega (arith, here.from);
      some = here.some;
      upto = omega (arith, here.upto);
    }

pub apart : (size low middle high x : ℕ) → StandsIn size low middle x → StandsIn size middle high x → ⊥
apart size low middle high x here there =
    let same : Some here.span ≡ Some there.span = sym here.named ∙ there.named in
    let span : here.span ≡ there.span = cc in
    let ends = ap (λ (s : Span). s.e) span in
    omega (arith, ends, here.upto, there.from, there.some)

pub node-stands : (size : ℕ) (node : Node) → IsNode size node → StandsIn size node.span.s node.span.e node.ident
node-stands size node is =
    record {
      span = node.span;
      named = is.named;
      from = omega arith;
      some = is.some;
      upto = omega arith;
    }

-- what two neighbours have, put together
record Holds (size low high : ℕ) (xs : List ℕ) : Type 0 where
  pub each : AllByRecursion (StandsIn size low high) xs
  pub once : IsDistinct nat_eq xs

holds-append : (size low middle high : ℕ) (xs ys : List ℕ) → low ≤ middle → middle ≤ high → Holds size low middle xs → Holds size middle high ys → Holds size low high (xs ++ ys)
holds-append size low middle high xs ys first second left right =
    record {
      each =
          all-append (StandsIn size low high) xs ys
          (all-map (StandsIn size low middle) (StandsIn size low high) (wider size low middle low high (omega arith) second) xs left.each)
          (all-map (StandsIn size middle high) (StandsIn size low high) (wider size middle high low high first (omega arith)) ys right.each);
      once =
          distinct-append (StandsIn size low middle) (StandsIn size middle high) (apart size low middle high) xs ys left.each right.each left.once right.once;
    }

holds-left : (size low middle high x : ℕ) (xs : List ℕ) → low ≤ middle → middle ≤ high → StandsIn size middle high x → Holds size low middle xs → Holds size low high (x ∷ xs)
holds-left size low middle high x xs first second here below =
    record {
      each = (
        wider size middle high low high first (omega arith) x here,
        all-map (StandsIn size low middle) (StandsIn size low high) (wider size low middle low high (omega arith) second) xs below.each,
      );
      once = distinct-cons (StandsIn size middle high) (StandsIn size low middle) (λ y p q. apart size low middle high y q p) x xs here below.each below.once;
    }

holds-right : (size low middle high x : ℕ) (xs : List ℕ) → low ≤ middle → middle ≤ high → StandsIn size low middle x → Holds size middle high xs → Holds size low high (x ∷ xs)
holds-right size low middle high x xs first second here below =
    record {
      each = (
        wider size low middle low high (omega arith) second x here,
        all-map (StandsIn size middle high) (StandsIn size low high) (wider size middle high low high first (omega arith)) xs below.each,
      );
      once = distinct-cons (StandsIn size low middle) (StandsIn size middle high) (apart size low middle high) x xs here below.each below.once;
    }

holds-same : (size low high : ℕ) (xs ys : List ℕ) → xs ≡ ys → Holds size low high ys → Holds size low high xs
holds-same size low high xs ys same holds = subst (Holds size low high) (sym same) holds

holds-one : (size : ℕ) (node : Node) → IsNode size node → Holds size node.span.s node.span.e (node.ident ∷ [])
holds-one size node is = record { each = (node-stands size node is, tt); once = distinct-one node.ident }

leaves-hold : (levels size : ℕ) (node : Node) → IsNode size node → Holds size node.span.s node.span.e (leaf_idents levels node)
leaves-hold zero size node is =
    holds-same size node.span.s node.span.e (leaf_idents zero node) (node.ident ∷ []) (leaf_idents-none zero node refl) (holds-one size node is)
leaves-hold (suc levels) size node is =
    elim (cases_lt BLOCK (size_of node)) [
      | inl large ↦
          let low = middle-low node large in
          let high = middle-high node large in
          let fewer : suc levels - 1 ≡ levels = omega arith in
          holds-same size node.span.s node.span.e (leaf_idents (suc levels) node) (leaf_idents levels (left_child node) ++ leaf_idents levels (right_child node))
          (leaf_idents-branch (suc levels) node (omega arith) large ∙ ap (λ (n : ℕ). leaf_idents n (left_child node) ++ leaf_idents n (right_child node)) fewer)
          (holds-append size node.span.s (middle node) node.span.e (leaf_idents levels (left_child node)) (leaf_idents levels (right_child node)) (omega arith) (omega arith)
          (leaves-hold levels size (left_child node) (left-node size node is large))
          (leaves-hold levels size (right_child node) (right-node size node is large)))
      | inr small ↦ holds-same size node.span.s node.span.e (leaf_idents (suc levels) node) (node.ident ∷ []) (leaf_idents-leaf (suc levels) node small) (holds-one size node is)
    ]

-- the identifiers from a node down to a part
abbrev pub below : ℕ → Node → ℕ → List ℕ
below levels node at = siblings levels node at ++ leaf_idents BLOCK_LEVELS (part_node levels node at)

pub below-none : (levels : ℕ) (node : Node) (at : ℕ) → levels ≡ 0 → below levels node at ≡ leaf_idents BLOCK_LEVELS node
below-none levels node at none =
    ap (λ (xs : List ℕ). xs ++ leaf_idents BLOCK_LEVELS (part_node levels node at)) (siblings-none levels node at none)
    ∙ ap (leaf_idents BLOCK_LEVELS) (part_node-none levels node at none)

pub below-part : (levels : ℕ) (node : Node) (at : ℕ) → size_of node ≤ PART → below levels node at ≡ leaf_idents BLOCK_LEVELS node
below-part levels node at small =
    ap (λ (xs : List ℕ). xs ++ leaf_idents BLOCK_LEVELS (part_node levels node at)) (siblings-part levels node at small)
    ∙ ap (leaf_idents BLOCK_LEVELS) (part_node-part levels node at small)

pub below-left : (levels : ℕ) (node : Node) (at : ℕ) → PART < size_of node → at < middle node → below (suc levels) node at ≡ (right_child node).ident ∷ below levels (left_child node) at
below-left levels node at large before =
    let fewer : suc levels - 1 ≡ levels = omega arith in
    ap (λ (xs : List ℕ). xs ++ leaf_idents BLOCK_LEVELS (part_node (suc levels) node at)) (siblings-left (suc levels) node at (omega arith) large before)
    ∙ ap (λ (reached : Node). ((right_child node).ident ∷ siblings (suc levels - 1) (left_child node) at) ++ leaf_idents BLOCK_LEVELS reached) (part_node-left (suc levels) node at (omega arith) large before)
    ∙ ap (λ (n : ℕ). (right_child node).ident ∷ below n (left_child node) at) fewer

pub below-right : (levels : ℕ) (node : Node) (at : ℕ) → PART < size_of node → middle node ≤ at → below (suc levels) node at ≡ (left_child node).ident ∷ below levels (right_child node) at
below-right levels node at large behind =
    let fewer : suc levels - 1 ≡ levels = omega arith in
    ap (λ (xs : List ℕ). xs ++ leaf_idents BLOCK_LEVELS (part_node (suc levels) node at)) (siblings-right (suc levels) node at (omega arith) large behind)
    ∙ ap (λ (reached : Node). ((left_child node).ident ∷ siblings (suc levels - 1) (right_child node) at) ++ leaf_idents BLOCK_LEVELS reached) (part_node-right (suc levels) node at (omega arith) large behind)
    ∙ ap (λ (n : ℕ). (left_child node).ident ∷ below n (right_child node) at) fewer

way-holds : (levels size : ℕ) (node : Node) (at : ℕ) → IsNode size node → Holds size node.span.s node.span.e (below levels node at)
way-holds zero size node at is =
    holds-same size node.span.s node.span.e (below zero node at) (leaf_idents BLOCK_LEVELS node) (below-none zero node at refl) (leaves-hold BLOCK_LEVELS size node is)
way-holds (suc levels) size node at is =
    elim (cases_lt PART (size_of node)) [
      | inr small ↦ holds-same size node.span.s node.span.e (below (suc levels) node at) (leaf_idents BLOCK_LEVELS node) (below-part (suc levels) node at small) (leaves-hold BLOCK_LEVELS size node is)
      | inl large ↦
          let branch : BLOCK < size_of node = omega arith in
          let low = middle-low node branch in
          let high = middle-high node branch in
          let left = left-node size node is branch in
          let right = right-node size node is branch in
          elim (cases_lt at (middle node)) [
            | inl before ↦
                holds-same size node.span.s node.span.e (below (suc levels) node at) ((right_child node).ident ∷ below levels (left_child node) at) (below-left levels node at large before)
                (holds-left size node.span.s (middle node) node.span.e (right_child node).ident (below levels (left_child node) at) (omega arith) (omega arith)
                (node-stands size (right_child node) right) (way-holds levels size (left_child node) at left))
            | inr behind ↦
                holds-same size node.span.s node.span.e (below (suc levels) node at) ((left_child node).ident ∷ below levels (right_child node) at) (below-right levels node at large behind)
                (holds-right size node.span.s (middle node) node.span.e (left_child node).ident (below levels (right_child node) at) (omega arith) (omega arith)
                (node-stands size (left_child node) left) (way-holds levels size (right_child node) at right))
          ]
    ]

-- the identifiers on a way are those of nodes, and no two are equal
pub way-stands : (levels size : ℕ) (node : Node) (at : ℕ) → IsNode size node → AllByRecursion (StandsIn size node.span.s node.span.e) (below levels node at)
way-stands levels size node at is = (way-holds levels size node at is).each

pub way-distinct : (levels size : ℕ) (node : Node) (at : ℕ) → IsNode size node → IsDistinct nat_eq (below levels node at)
way-distinct levels size node at is = (way-holds levels size node at is).once

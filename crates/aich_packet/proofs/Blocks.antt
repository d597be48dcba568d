-- The leaves below a part's node stand over the part's blocks.
use Rattle.std.proofs.Common.{arith, ◌≡◌, ℕ, zero, suc, ◌+◌, ◌-◌, ◌*◌, ◌<◌, ◌≤◌, ◌^◌, min, List, [], ◌∷◌, ◌++◌, map, Option, Some, refl, sym, ap, ◌∙◌, inl, inr}
use Rattle.std.specs.List.{range_with_len}
use Rattle.std.specs.Int.{div_ceil}
use Rattle.std.proofs.lemmas.Bool.{cases_lt}
use Rattle.std.proofs.lemmas.List.{map-append}
use Rattle.part_sizes.specs.declared.span.Span.{Span}
use Rattle.part_sizes.specs.declared.part.TheConstants.{PART}
use Rattle.part_sizes.specs.declared.block.TheConstants.{BLOCK}
use Rattle.aich_tree.specs.Ident.{node_range}
use Rattle.aich_packet.specs.declared.node.Node.{Node}
use Rattle.aich_packet.specs.declared.way.TheConstants.{PART_LEVELS, BLOCK_LEVELS}
use Rattle.aich_packet.specs.Way.{root_of, size_of, middle, left_child, right_child, leaf_idents, part_node}
use Rattle.aich_packet.specs.WayLaws.{WaysReachParts, LeavesAreBlocks}
use Rattle.aich_packet.proofs.Nodes.{IsNode, left-node, right-node, middle-high}
use Rattle.aich_packet.proofs.Reached.{reached, blocks-below}
use Rattle.aich_packet.proofs.Routes.{leaf_idents-none, leaf_idents-leaf, leaf_idents-branch}

span-is : (span : Span) (s e : ℕ) → span.s ≡ s → span.e ≡ e → span ≡ record { s = s; e = e }
span-is span s e start end = rw (sym start, sym end) refl

map_range-split : (f : ℕ → Option Span) (a n m : ℕ) → map f (range_with_len a (n + m)) ≡ map f (range_with_len a n) ++ map f (range_with_len (a + n) m)
map_range-split f a zero m =
    let none : zero + m ≡ m = omega arith in
    let here : a ≡ a + zero = omega arith in
    ap (λ (k : ℕ). map f (range_with_len a k)) none ∙ ap (λ (k : ℕ). map f (range_with_len k m)) here
map_range-split f a (suc n) m =
    let more : suc n + m ≡ suc (n + m) = omega arith in
    let on : a + 1 + n ≡ a + suc n = omega arith in
    ap (λ (k : ℕ). map f (range_with_len a k)) more
    ∙ ap (λ (rest : List (Option Span)). f a ∷ rest) (map_range-split f (a + 1) n m)
    ∙ ap (λ (k : ℕ). map f (range_with_len a (suc n)) ++ map f (range_with_len k m)) on

-- the blocks from a position on, up to another
abbrev block_at : ℕ → ℕ → ℕ → Option Span
block_at base top k = Some (record { s = base + k * BLOCK; e = min (base + (k + 1) * BLOCK) top })

-- a node over such blocks, from this one on
record Covers (base top first : ℕ) (node : Node) : Type 0 where
  pub starts : node.span.s ≡ base + first * BLOCK
  pub ends : node.span.e ≡ min (base + (first + div_ceil (size_of node) BLOCK) * BLOCK) top

block-one : (size base top first : ℕ) (node : Node) → IsNode size node → Covers base top first node → size_of node ≤ BLOCK
    → map (node_range size) (node.ident ∷ []) ≡ map (block_at base top) (range_with_len first (div_ceil (size_of node) BLOCK))
block-one size base top first node is covers small =
    let one : 1 ≡ div_ceil (size_of node) BLOCK = omega (arith, is.some) in
    let end : node.span.e ≡ min (base + (first + 1) * BLOCK) top =
    covers.ends ∙ ap (λ (n : ℕ). min (base + (first + n) * BLOCK) top) (sym one) in
    let here : node_range size node.ident ≡ block_at base top first =
    is.named ∙ ap Some (span-is node.span (base + first * BLOCK) (min (base + (first + 1) * BLOCK) top) covers.starts end) in
    ap (λ (found : Option Span). found ∷ []) here
    ∙ ap (λ (n : ℕ). map (block_at base top) (range_with_len first n)) one

border-at : (m s base first c : ℕ) → m ≡ s + c * BLOCK → s ≡ base + first * BLOCK → m ≡ base + (first + c) * BLOCK
border-at m s base first c border start = omega arith

left-end : (m e base n rest top : ℕ) → m ≡ base + n * BLOCK → m < e → e ≡ min rest top → m ≡ min (base + n * BLOCK) top
left-end m e base n rest top border high end = omega arith

part-end : (base s e top : ℕ) → s ≡ base → e ≡ top → s < e → e ≡ min (base + (0 + div_ceil (e - s) BLOCK) * BLOCK) top
part-end base s e top start end some = omega arith

leaves-blocks : (levels size base top first : ℕ) (node : Node) → IsNode size node → size_of node ≤ PART → div_ceil (size_of node) BLOCK ≤ 2 ^ levels → Covers base top first node
    → map (node_range size) (leaf_idents levels node) ≡ map (block_at base top) (range_with_len first (div_ceil (size_of node) BLOCK))
leaves-blocks zero size base top first node is small fits covers =
    ap (map (node_range size)) (leaf_idents-none zero node refl) ∙ block-one size base top first node is covers (omega arith)
leaves-blocks (suc levels) size base top first node is small fits covers =
    elim (cases_lt BLOCK (size_of node)) [
      | inr little ↦
          ap (map (node_range size)) (leaf_idents-leaf (suc levels) node little) ∙ block-one size base top first node is covers little
      | inl large ↦
          let parts = blocks-below levels node large small fits in
          let fewer : suc levels - 1 ≡ levels = omega arith in
          let lefts = leaf_idents levels (left_child node) in
          let rights = leaf_idents levels (right_child node) in
          let c = div_ceil (size_of (left_child node)) BLOCK in
          let c' = div_ceil (size_of (right_child node)) BLOCK in
          let split : leaf_idents (suc levels) node ≡ lefts ++ rights =
          leaf_idents-branch (suc levels) node (omega arith) large ∙ ap (λ (n : ℕ). leaf_idents n (left_child node) ++ leaf_idents n (right_child node)) fewer in
          let border = border-at (middle node) node.span.s base first c parts.border covers.starts in
          let end = left-end (middle node) node.span.e base (first + c) (base + (first + div_ceil (size_of node) BLOCK) * BLOCK) top border (middle-high node large) covers.ends in
          let count : first + div_ceil (size_of node) BLOCK ≡ first + c + c' = omega (arith, parts.sum) in
          let end' : node.span.e ≡ min (base + (first + c + c') * BLOCK) top =
          covers.ends ∙ ap (λ (n : ℕ). min (base + n * BLOCK) top) count in
          let left = leaves-blocks levels size base top first (left_child node) (left-node size node is large) parts.left-small parts.left
          (record { starts = covers.starts; ends = end }) in
          let right = leaves-blocks levels size base top (first + c) (right_child node) (right-node size node is large) parts.right-small parts.right
          (record { starts = border; ends = end' }) in
          ap (map (node_range size)) split
          ∙ map-append (node_range size) lefts rights
          ∙ ap (λ (found : List (Option Span)). found ++ map (node_range size) rights) left
          ∙ ap (λ (found : List (Option Span)). map (block_at base top) (range_with_len first c) ++ found) right
          ∙ sym (map_range-split (block_at base top) first c c')
          ∙ ap (λ (n : ℕ). map (block_at base top) (range_with_len first n)) parts.sum
    ]

pub ways-reach : WaysReachParts
ways-reach size part limits exists =
    let end = reached size part limits exists in
    span-is (part_node PART_LEVELS (root_of size) (part * PART)).span (part * PART) (min ((part + 1) * PART) size) end.s end.e

pub leaves-are_blocks : LeavesAreBlocks
leaves-are_blocks size part limits exists =
    let node = part_node PART_LEVELS (root_of size) (part * PART) in
    let end = reached size part limits exists in
    let top = min ((part + 1) * PART) size in
    let width : size_of node ≡ top - part * PART = omega (arith, end.s, end.e) in
    let small : size_of node ≤ PART = omega (arith, width) in
    let covers : Covers (part * PART) top 0 node = record { starts = omega (arith, end.s); ends = part-end (part * PART) node.span.s node.span.e top end.s end.e end.is.some } in
    leaves-blocks BLOCK_LEVELS size (part * PART) top 0 node end.is small (omega (arith, small)) covers
    ∙ ap (λ (n : ℕ). map (block_at (part * PART) top) (range_with_len 0 (div_ceil n BLOCK))) width

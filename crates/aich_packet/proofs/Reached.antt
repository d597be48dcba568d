-- Where the way to a part ends, and how many leaves there are.
use Rattle.std.proofs.Common.{arith, ◌≡◌, ◌⊎◌, ℕ, zero, suc, ◌+◌, ◌-◌, ◌*◌, ◌/◌, ◌%◌, ◌<◌, ◌≤◌, ◌^◌, min, List, ◌∷◌, ◌++◌, length, take, drop, refl, sym, ap, subst, ◌∙◌, inl, inr, length-append, length-drop, drop_at, take_all, pow-suc}
use Rattle.std.proofs.lemmas.Bool.{cases_lt}
use Rattle.std.specs.Int.{div_ceil}
use Rattle.part_sizes.specs.Part.{IsSize, data_parts}
use Rattle.part_sizes.specs.Block.{block_count}
use Rattle.part_sizes.specs.declared.part.TheConstants.{PART}
use Rattle.part_sizes.specs.declared.block.TheConstants.{BLOCK}
use Rattle.aich_tree.specs.Ident.{is_left}
use Rattle.aich_tree.proofs.Division.{flag, flag_small, left_bytes-parts, left_bytes-blocks}
use Rattle.aich_packet.specs.declared.node.Node.{Node}
use Rattle.aich_packet.specs.declared.way.TheConstants.{PART_LEVELS, BLOCK_LEVELS}
use Rattle.aich_packet.specs.Way.{root_of, size_of, middle, left_child, right_child, leaf_idents, part_node, siblings, leaves_on, path}
use Rattle.aich_packet.proofs.Nodes.{IsNode, root-node, left-node, right-node, middle-low, middle-high}
use Rattle.aich_packet.proofs.Routes.{leaf_idents-none, leaf_idents-leaf, leaf_idents-branch, siblings-none, siblings-part, siblings-left, siblings-right, part_node-none, part_node-part, part_node-left, part_node-right}

-- whole parts, or the file's last ones, that have a position
record HasPart (size : ℕ) (node : Node) (at : ℕ) : Type 0 where
  pub starts : node.span.s % PART ≡ 0
  pub ends : (node.span.e % PART ≡ 0) ⊎ (node.span.e ≡ size)
  pub low : node.span.s ≤ at
  pub high : at < node.span.e

-- the node of a part
pub record IsPartNode (size part : ℕ) (node : Node) : Type 0 where
  pub is : IsNode size node
  pub s : node.span.s ≡ part * PART
  pub e : node.span.e ≡ min ((part + 1) * PART) size

at-start : (s e part : ℕ) → s % PART ≡ 0 → s ≤ part * PART → part * PART < e → e - s ≤ PART → s ≡ part * PART
at-start s e part starts low high small = omega arith

at-end : (s e size part : ℕ) → s ≡ part * PART → part * PART < e → e - s ≤ PART → e ≤ size → (e % PART ≡ 0) ⊎ (e ≡ size) → e ≡ min ((part + 1) * PART) size
at-end s e size part start high small within ends =
    elim ends [
      | inl whole ↦ omega arith
      | inr last ↦ omega arith
    ]

single : (size part : ℕ) (node : Node) → IsNode size node → HasPart size node (part * PART) → size_of node ≤ PART → IsPartNode size part node
single size part node is has small =
    let start = at-start node.span.s node.span.e part has.starts has.low has.high small in
    record {
      is = is;
      s = start;
      e = at-end node.span.s node.span.e size part start has.high small is.within has.ends;
    }

-- half of so many units, on either side
half-left : (n k u f p unit : ℕ) → k ≡ (u + f) / 2 → f ≤ 1 → u ≤ p * 2 → k ≤ p
half-left n k u f p unit half small fits = omega arith

parts-left : (k : ℕ) → div_ceil (k * PART) PART ≡ k
parts-left k = omega arith

parts-right : (n k : ℕ) → k * PART ≤ n → div_ceil (n - k * PART) PART + k ≡ div_ceil n PART
parts-right n k within = omega arith

blocks-left : (k : ℕ) → div_ceil (k * BLOCK) BLOCK ≡ k
blocks-left k = omega arith

blocks-right : (n k : ℕ) → k * BLOCK ≤ n → div_ceil (n - k * BLOCK) BLOCK + k ≡ div_ceil n BLOCK
blocks-right n k within = omega arith

reach : (levels size part : ℕ) (node : Node) → IsNode size node → HasPart size node (part * PART) → div_ceil (size_of node) PART ≤ 2 ^ levels
    → IsPartNode size part (part_node levels node (part * PART))
reach zero size part node is has fits =
    let small : size_of node ≤ PART = omega arith in
    subst (IsPartNode size part) (sym (part_node-none zero node (part * PART) refl)) (single size part node is has small)
reach (suc levels) size part node is has fits =
    elim (cases_lt PART (size_of node)) [
      | inr small ↦ subst (IsPartNode size part) (sym (part_node-part (suc levels) node (part * PART) small)) (single size part node is has small)
      | inl large ↦
          let n = size_of node in
          let branch : BLOCK < n = omega arith in
          let f = flag (is_left node.ident) in
          let k = (div_ceil n PART + f) / 2 in
          let cut = left_bytes-parts n (is_left node.ident) large in
          let little = flag_small (is_left node.ident) in
          let low = middle-low node branch in
          let high = middle-high node branch in
          let fits' : div_ceil n PART ≤ 2 ^ levels * 2 = rw pow-suc at fits in
          let place : middle node ≡ node.span.s + k * PART = ap (λ (m : ℕ). node.span.s + m) cut in
          let whole : middle node % PART ≡ 0 = omega (arith, place, has.starts) in
          let fewer : suc levels - 1 ≡ levels = omega arith in
          elim (cases_lt (part * PART) (middle node)) [
            | inl before ↦
                let width : size_of (left_child node) ≡ k * PART = omega (arith, place) in
                let count = ap (λ (m : ℕ). div_ceil m PART) width ∙ parts-left k in
                let next = reach levels size part (left_child node) (left-node size node is branch)
                (record { starts = has.starts; ends = inl whole; low = has.low; high = before })
                (omega (arith, count, fits', little)) in
                subst (IsPartNode size part) (sym (part_node-left (suc levels) node (part * PART) (omega arith) large before ∙ ap (λ (m : ℕ). part_node m (left_child node) (part * PART)) fewer)) next
            | inr behind ↦
                let width : size_of (right_child node) ≡ n - k * PART = omega (arith, place) in
                let within : k * PART ≤ n = omega (arith, place, high) in
                let count = ap (λ (m : ℕ). div_ceil m PART) width in
                let next = reach levels size part (right_child node) (right-node size node is branch)
                (record { starts = whole; ends = has.ends; low = behind; high = has.high })
                (omega (arith, count, parts-right n k within, fits', little)) in
                subst (IsPartNode size part) (sym (part_node-right (suc levels) node (part * PART) (omega arith) large behind ∙ ap (λ (m : ℕ). part_node m (right_child node) (part * PART)) fewer)) next
          ]
    ]

pub reached : (size part : ℕ) → IsSize size → part < data_parts size → IsPartNode size part (part_node PART_LEVELS (root_of size) (part * PART))
reached size part limits exists =
    reach PART_LEVELS size part (root_of size) (root-node size limits.0)
    (record { starts = refl; ends = inr refl; low = omega arith; high = omega (arith, exists) })
    (omega (arith, limits.1))

-- ---- how many there are

-- the blocks of a branch's children
pub record BlocksBelow (levels : ℕ) (node : Node) : Type 0 where
  pub left-some : 1 ≤ size_of (left_child node)
  pub right-some : 1 ≤ size_of (right_child node)
  pub left-small : size_of (left_child node) ≤ PART
  pub right-small : size_of (right_child node) ≤ PART
  pub left : div_ceil (size_of (left_child node)) BLOCK ≤ 2 ^ levels
  pub right : div_ceil (size_of (right_child node)) BLOCK ≤ 2 ^ levels
  pub sum : div_ceil (size_of (left_child node)) BLOCK + div_ceil (size_of (right_child node)) BLOCK ≡ div_ceil (size_of node) BLOCK
  pub border : middle node ≡ node.span.s + div_ceil (size_of (left_child node)) BLOCK * BLOCK

pub blocks-below : (levels : ℕ) (node : Node) → BLOCK < size_of node → size_of node ≤ PART → div_ceil (size_of node) BLOCK ≤ 2 ^ suc levels → BlocksBelow levels node
blocks-below levels node large small fits =
    let n = size_of node in
    let f = flag (is_left node.ident) in
    let k = (div_ceil n BLOCK + f) / 2 in
    let cut = left_bytes-blocks n (is_left node.ident) small in
    let little = flag_small (is_left node.ident) in
    let low = middle-low node large in
    let high = middle-high node large in
    let fits' : div_ceil n BLOCK ≤ 2 ^ levels * 2 = rw pow-suc at fits in
    let place : middle node ≡ node.span.s + k * BLOCK = ap (λ (m : ℕ). node.span.s + m) cut in
    let width : size_of (left_child node) ≡ k * BLOCK = omega (arith, place) in
    let width' : size_of (right_child node) ≡ n - k * BLOCK = omega (arith, place) in
    let within : k * BLOCK ≤ n = omega (arith, place, high) in
    let count = ap (λ (m : ℕ). div_ceil m BLOCK) width ∙ blocks-left k in
    let count' = ap (λ (m : ℕ). div_ceil m BLOCK) width' in
    let all = blocks-right n k within in
    record {
      left-some = omega (arith, low);
      right-some = omega (arith, high);
      left-small = omega (arith, high, small);
      right-small = omega (arith, low, small);
      left = omega (arith, count, fits', little);
      right = omega (arith, count', all, fits', little);
      sum = omega (arith, count, count', all);
      border = place ∙ ap (λ (m : ℕ). node.span.s + m * BLOCK) (sym count);
    }

pub length-leaf_idents : (levels : ℕ) (node : Node) → 1 ≤ size_of node → size_of node ≤ PART → div_ceil (size_of node) BLOCK ≤ 2 ^ levels
    → length (leaf_idents levels node) ≡ div_ceil (size_of node) BLOCK
length-leaf_idents zero node some small fits =
    let one : 1 ≡ div_ceil (size_of node) BLOCK = omega arith in
    ap length (leaf_idents-none zero node refl) ∙ one
length-leaf_idents (suc levels) node some small fits =
    elim (cases_lt BLOCK (size_of node)) [
      | inr little ↦
          let one : 1 ≡ div_ceil (size_of node) BLOCK = omega arith in
          ap length (leaf_idents-leaf (suc levels) node little) ∙ one
      | inl large ↦
          let parts = blocks-below levels node large small fits in
          let fewer : suc levels - 1 ≡ levels = omega arith in
          let left = length-leaf_idents levels (left_child node) parts.left-some parts.left-small parts.left in
          let right = length-leaf_idents levels (right_child node) parts.right-some parts.right-small parts.right in
          ap length (leaf_idents-branch (suc levels) node (omega arith) large ∙ ap (λ (m : ℕ). leaf_idents m (left_child node) ++ leaf_idents m (right_child node)) fewer)
          ∙ length-append (leaf_idents levels (left_child node)) (leaf_idents levels (right_child node))
          ∙ omega (arith, left, right, parts.sum)
    ]

pub length-siblings : (levels : ℕ) (node : Node) (at : ℕ) → length (siblings levels node at) ≤ levels
length-siblings zero node at = omega (arith, ap length (siblings-none zero node at refl))
length-siblings (suc levels) node at =
    elim (cases_lt PART (size_of node)) [
      | inr small ↦ omega (arith, ap length (siblings-part (suc levels) node at small))
      | inl large ↦
          let fewer : suc levels - 1 ≡ levels = omega arith in
          elim (cases_lt at (middle node)) [
            | inl before ↦
                let e = ap length (siblings-left (suc levels) node at (omega arith) large before ∙ ap (λ (m : ℕ). (right_child node).ident ∷ siblings m (left_child node) at) fewer) in
                omega (arith, e, length-siblings levels (left_child node) at)
            | inr behind ↦
                let e = ap length (siblings-right (suc levels) node at (omega arith) large behind ∙ ap (λ (m : ℕ). (left_child node).ident ∷ siblings m (right_child node) at) fewer) in
                omega (arith, e, length-siblings levels (right_child node) at)
          ]
    ]

pub length-leaves_on : (size part : ℕ) → IsSize size → part < data_parts size → length (leaves_on size part) ≡ block_count size part
length-leaves_on size part limits exists =
    let node = part_node PART_LEVELS (root_of size) (part * PART) in
    let end = reached size part limits exists in
    let width : size_of node ≡ min ((part + 1) * PART) size - part * PART = omega (arith, end.s, end.e) in
    let some : 1 ≤ size_of node = omega (arith, end.is.some) in
    let small : size_of node ≤ PART = omega (arith, width) in
    length-leaf_idents BLOCK_LEVELS node some small (omega (arith, small)) ∙ ap (λ (n : ℕ). div_ceil n BLOCK) width

few-blocks : (size part : ℕ) → block_count size part ≤ 53
few-blocks size part = omega arith

pub length-path : (size part : ℕ) → IsSize size → part < data_parts size → length (path size part) ≤ 62
length-path size part limits exists =
    let above = length-siblings PART_LEVELS (root_of size) (part * PART) in
    let all = length-append (siblings PART_LEVELS (root_of size) (part * PART)) (leaves_on size part) in
    let leaves = length-leaves_on size part limits exists in
    omega (arith, above, all, leaves, few-blocks size part)

-- the leaves stand behind the siblings
pub path-leaves : (size part count : ℕ) → IsSize size → part < data_parts size → count ≡ block_count size part
    → drop (length (path size part) - count) (path size part) ≡ leaves_on size part
path-leaves size part count limits exists is =
    let above = siblings PART_LEVELS (root_of size) (part * PART) in
    let all = length-append above (leaves_on size part) in
    let leaves = length-leaves_on size part limits exists in
    drop_at above (leaves_on size part) (length (path size part) - count) (omega (arith, all, leaves, is))

pub path-has : (size part count : ℕ) → IsSize size → part < data_parts size → count ≡ block_count size part → count ≤ length (path size part)
path-has size part count limits exists is =
    let all = length-append (siblings PART_LEVELS (root_of size) (part * PART)) (leaves_on size part) in
    omega (arith, all, length-leaves_on size part limits exists, is)

pub leaves-slice : (idents : List ℕ) (size part count len : ℕ) → IsSize size → part < data_parts size → count ≡ block_count size part → idents ≡ path size part → len ≡ length idents
    → take (length idents - (len - count)) (drop (len - count) idents) ≡ leaves_on size part
leaves-slice idents size part count len limits exists is on long =
    take_all (length idents - (len - count)) (drop (len - count) idents) (omega (arith, length-drop (len - count) idents))
    ∙ ap (λ (n : ℕ). drop (n - count) idents) long
    ∙ ap (λ (all : List ℕ). drop (length all - count) all) on
    ∙ path-leaves size part count limits exists is

-- The hashes of a tree over bytes, on the way to a part.
use Rattle.std.proofs.Common.{arith, ◌≡◌, ℕ, zero, suc, ◌+◌, ◌-◌, ◌*◌, ◌/◌, ◌%◌, ◌<◌, ◌≤◌, ◌^◌, min, Bool, true, false, List, [], ◌∷◌, ◌++◌, length, take, drop, map, get_or, Option, option_map, unwrap_or, refl, sym, ap, subst, ◌∙◌, inl, inr, eq-eqb, ne_eqb, length-drop, length-take, length-take-le, take-append-drop, take-take, drop-drop, take_all, ext_get_or, zero-add}
use Rattle.std.specs.List.{AllByRecursion}
use Rattle.std.specs.Int.{div_ceil}
use Rattle.std.proofs.lemmas.Bool.{cases_lt}
use Rattle.std.proofs.lemmas.List.{drop-take, map-append}
use Rattle.std.proofs.lemmas.List.FromFn.{get_or-map-range_with_len, length-map-range_with_len}
use Rattle.sha1.specs.Sha1.{sha1}
use Rattle.part_sizes.specs.declared.span.Span.{Span}
use Rattle.part_sizes.specs.Part.{part, IsSize, data_parts}
use Rattle.part_sizes.specs.Block.{block_count}
use Rattle.part_sizes.specs.declared.part.TheConstants.{PART}
use Rattle.part_sizes.specs.declared.block.TheConstants.{BLOCK}
use Rattle.aich_tree.specs.Ident.{bytes_at, is_left, node}
use Rattle.aich_tree.specs.Leaves.{leaf, leaf_count, leaves_of, part_leaves}
use Rattle.aich_tree.specs.Tree.{left_bytes, tree}
use Rattle.aich_tree.proofs.Division.{left_bytes-proper}
use Rattle.aich_tree.proofs.LeafLemmas.{leaves_of-one, get_or-leaves_of, length-leaves_of}
use Rattle.aich_tree.proofs.PlaceLemmas.{first_leaves, second_leaves}
use Rattle.aich_tree.proofs.TreeLemmas.{tree-leaf, tree-branch}
use Rattle.aich_packet.specs.declared.node.Node.{Node}
use Rattle.aich_packet.specs.declared.way.TheConstants.{PART_LEVELS, BLOCK_LEVELS}
use Rattle.aich_packet.specs.Folding.{fold_leaves, fold_way, folds}
use Rattle.aich_packet.specs.Way.{root_of, size_of, middle, left_child, right_child, leaf_idents, part_node, siblings, leaves_on, path}
use Rattle.aich_packet.proofs.Distinct.{all-front, all-behind}
use Rattle.aich_packet.proofs.Nodes.{IsNode, root-node, left-node, right-node, below, below-none, below-part, below-left, below-right}
use Rattle.aich_packet.proofs.Reached.{blocks-below, reached}
use Rattle.aich_packet.proofs.Routes.{leaf_idents-none, leaf_idents-leaf, leaf_idents-branch, fold_leaves-none, fold_leaves-leaf, fold_leaves-branch, fold_way-none, fold_way-part, fold_way-left, fold_way-right}

-- ---- the hash of a node by its identifier

-- the hash of the node with this identifier, and nothing where there is none
abbrev pub known : List ℕ → ℕ → List ℕ
known bytes ident = unwrap_or (node bytes ident) []

-- the hash of a node by its positions
abbrev hash_at : List ℕ → Node → List ℕ
hash_at bytes nd = tree (bytes_at bytes nd.span) (is_left nd.ident)

pub known-node : (bytes : List ℕ) (nd : Node) → IsNode (length bytes) nd → known bytes nd.ident ≡ hash_at bytes nd
known-node bytes nd is =
    ap (λ (found : Option Span). unwrap_or (option_map (λ (span : Span). tree (bytes_at bytes span) (is_left nd.ident)) found) []) is.named

long : (bytes : List ℕ) (nd : Node) → IsNode (length bytes) nd → length (bytes_at bytes nd.span) ≡ size_of nd
long bytes nd is = length-take-le (size_of nd) (drop nd.span.s bytes) (omega (arith, is.within, length-drop nd.span.s bytes))

-- the bytes of children
left-bytes : (bytes : List ℕ) (nd : Node) → IsNode (length bytes) nd → BLOCK < size_of nd
    → take (left_bytes (length (bytes_at bytes nd.span)) (is_left nd.ident)) (bytes_at bytes nd.span) ≡ bytes_at bytes (left_child nd).span
left-bytes bytes nd is large =
    let l = left_bytes (size_of nd) (is_left nd.ident) in
    let proper = left_bytes-proper (size_of nd) (is_left nd.ident) large in
    let width : nd.span.s + l - nd.span.s ≡ l = omega arith in
    ap (λ (n : ℕ). take (left_bytes n (is_left nd.ident)) (bytes_at bytes nd.span)) (long bytes nd is)
    ∙ take-take l (size_of nd) (drop nd.span.s bytes) (omega (arith, proper))
    ∙ ap (λ (n : ℕ). take n (drop nd.span.s bytes)) (sym width)

right-bytes : (bytes : List ℕ) (nd : Node) → IsNode (length bytes) nd → BLOCK < size_of nd
    → drop (left_bytes (length (bytes_at bytes nd.span)) (is_left nd.ident)) (bytes_at bytes nd.span) ≡ bytes_at bytes (right_child nd).span
right-bytes bytes nd is large =
    let l = left_bytes (size_of nd) (is_left nd.ident) in
    let proper = left_bytes-proper (size_of nd) (is_left nd.ident) large in
    let width : nd.span.e - (nd.span.s + l) ≡ size_of nd - l = omega arith in
    let all : size_of nd ≡ l + (size_of nd - l) = omega (arith, proper) in
    ap (λ (n : ℕ). drop (left_bytes n (is_left nd.ident)) (bytes_at bytes nd.span)) (long bytes nd is)
    ∙ ap (λ (n : ℕ). drop l (take n (drop nd.span.s bytes))) all
    ∙ drop-take l (size_of nd - l) (drop nd.span.s bytes)
    ∙ ap (λ (rest : List ℕ). take (size_of nd - l) rest) (drop-drop l nd.span.s bytes)
    ∙ ap (λ (n : ℕ). take n (drop (nd.span.s + l) bytes)) (sym width)

odd : (i : ℕ) → is_left (2 * i + 1) ≡ true
odd i = eq-eqb ((2 * i + 1) % 2) 1 (omega arith)

even : (i : ℕ) → is_left (2 * i) ≡ false
even i = ne_eqb (2 * i % 2) 1 (λ e. omega (arith, e))

hash-branch : (bytes : List ℕ) (nd : Node) → IsNode (length bytes) nd → BLOCK < size_of nd
    → sha1 (hash_at bytes (left_child nd) ++ hash_at bytes (right_child nd)) ≡ hash_at bytes nd
hash-branch bytes nd is large =
    let whole = bytes_at bytes nd.span in
    let large' : BLOCK < length whole = omega (arith, long bytes nd is, large) in
    ap (λ (left : Bool). sha1 (tree (bytes_at bytes (left_child nd).span) left ++ hash_at bytes (right_child nd))) (odd nd.ident)
    ∙ ap (λ (left : Bool). sha1 (tree (bytes_at bytes (left_child nd).span) true ++ tree (bytes_at bytes (right_child nd).span) left)) (even nd.ident)
    ∙ ap (λ (first : List ℕ). sha1 (tree first true ++ tree (bytes_at bytes (right_child nd).span) false)) (sym (left-bytes bytes nd is large))
    ∙ ap (λ (second : List ℕ). sha1 (tree (take (left_bytes (length whole) (is_left nd.ident)) whole) true ++ tree second false)) (sym (right-bytes bytes nd is large))
    ∙ sym (tree-branch whole (is_left nd.ident) large')

-- ---- folding hashes of the tree gives hashes of the tree

abbrev pub Agrees : List ℕ → (ℕ → List ℕ) → ℕ → Type 0
Agrees bytes hash ident = hash ident ≡ known bytes ident

fold_leaves-tree : (levels : ℕ) (bytes : List ℕ) (hash : ℕ → List ℕ) (nd : Node) → IsNode (length bytes) nd → AllByRecursion (Agrees bytes hash) (leaf_idents levels nd)
    → fold_leaves levels hash nd ≡ hash_at bytes nd
fold_leaves-tree zero bytes hash nd is agree =
    let agree' = subst (AllByRecursion (Agrees bytes hash)) (leaf_idents-none zero nd refl) agree in
    fold_leaves-none zero hash nd refl ∙ agree'.0 ∙ known-node bytes nd is
fold_leaves-tree (suc levels) bytes hash nd is agree =
    elim (cases_lt BLOCK (size_of nd)) [
      | inr small ↦
          let agree' = subst (AllByRecursion (Agrees bytes hash)) (leaf_idents-leaf (suc levels) nd small) agree in
          fold_leaves-leaf (suc levels) hash nd small ∙ agree'.0 ∙ known-node bytes nd is
      | inl large ↦
          let fewer : suc levels - 1 ≡ levels = omega arith in
          let lefts = leaf_idents levels (left_child nd) in
          let rights = leaf_idents levels (right_child nd) in
          let split : leaf_idents (suc levels) nd ≡ lefts ++ rights =
          leaf_idents-branch (suc levels) nd (omega arith) large ∙ ap (λ (n : ℕ). leaf_idents n (left_child nd) ++ leaf_idents n (right_child nd)) fewer in
          let agree' = subst (AllByRecursion (Agrees bytes hash)) split agree in
          let first = fold_leaves-tree levels bytes hash (left_child nd) (left-node (length bytes) nd is large) (all-front (Agrees bytes hash) lefts rights agree') in
          let second = fold_leaves-tree levels bytes hash (right_child nd) (right-node (length bytes) nd is large) (all-behind (Agrees bytes hash) lefts rights agree') in
          fold_leaves-branch (suc levels) hash nd (omega arith) large
          ∙ ap (λ (n : ℕ). sha1 (fold_leaves n hash (left_child nd) ++ fold_leaves n hash (right_child nd))) fewer
          ∙ ap (λ (left : List ℕ). sha1 (left ++ fold_leaves levels hash (right_child nd))) first
          ∙ ap (λ (right : List ℕ). sha1 (hash_at bytes (left_child nd) ++ right)) second
          ∙ hash-branch bytes nd is large
    ]

fold_way-tree : (levels : ℕ) (bytes : List ℕ) (hash : ℕ → List ℕ) (nd : Node) (at : ℕ) → IsNode (length bytes) nd → AllByRecursion (Agrees bytes hash) (below levels nd at)
    → fold_way levels hash nd at ≡ hash_at bytes nd
fold_way-tree zero bytes hash nd at is agree =
    fold_way-none zero hash nd at refl
    ∙ fold_leaves-tree BLOCK_LEVELS bytes hash nd is (subst (AllByRecursion (Agrees bytes hash)) (below-none zero nd at refl) agree)
fold_way-tree (suc levels) bytes hash nd at is agree =
    elim (cases_lt PART (size_of nd)) [
      | inr small ↦
          fold_way-part (suc levels) hash nd at small
          ∙ fold_leaves-tree BLOCK_LEVELS bytes hash nd is (subst (AllByRecursion (Agrees bytes hash)) (below-part (suc levels) nd at small) agree)
      | inl large ↦
          let branch : BLOCK < size_of nd = omega arith in
          let fewer : suc levels - 1 ≡ levels = omega arith in
          let left = left-node (length bytes) nd is branch in
          let right = right-node (length bytes) nd is branch in
          elim (cases_lt at (middle nd)) [
            | inl before ↦
                let agree' = subst (AllByRecursion (Agrees bytes hash)) (below-left levels nd at large before) agree in
                let first = fold_way-tree levels bytes hash (left_child nd) at left agree'.1 in
                fold_way-left (suc levels) hash nd at (omega arith) large before
                ∙ ap (λ (n : ℕ). sha1 (fold_way n hash (left_child nd) at ++ hash (right_child nd).ident)) fewer
                ∙ ap (λ (other : List ℕ). sha1 (other ++ hash (right_child nd).ident)) first
                ∙ ap (λ (other : List ℕ). sha1 (hash_at bytes (left_child nd) ++ other)) (agree'.0 ∙ known-node bytes (right_child nd) right)
                ∙ hash-branch bytes nd is branch
            | inr behind ↦
                let agree' = subst (AllByRecursion (Agrees bytes hash)) (below-right levels nd at large behind) agree in
                let second = fold_way-tree levels bytes hash (right_child nd) at right agree'.1 in
                fold_way-right (suc levels) hash nd at (omega arith) large behind
                ∙ ap (λ (n : ℕ). sha1 (hash (left_child nd).ident ++ fold_way n hash (right_child nd) at)) fewer
                ∙ ap (λ (other : List ℕ). sha1 (other ++ fold_way levels hash (right_child nd) at)) (agree'.0 ∙ known-node bytes (left_child nd) left)
                ∙ ap (λ (other : List ℕ). sha1 (hash_at bytes (left_child nd) ++ other)) second
                ∙ hash-branch bytes nd is branch
          ]
    ]

-- hashes that are the tree's on a part's path give its root
pub folds-tree : (bytes : List ℕ) (i : ℕ) (hash : ℕ → List ℕ) → 1 ≤ length bytes → AllByRecursion (Agrees bytes hash) (path (length bytes) i)
    → folds (length bytes) i hash ≡ tree bytes true
folds-tree bytes i hash some agree =
    let root = root_of (length bytes) in
    fold_way-tree PART_LEVELS bytes hash root (i * PART) (root-node (length bytes) some) agree
    ∙ ap (λ (all : List ℕ). tree all true) (take_all (length bytes - 0) bytes (omega arith))

-- ---- the leaves

whole-leaves : (whole : List ℕ) (left : Bool) → BLOCK < length whole
    → leaves_of whole ≡ leaves_of (take (left_bytes (length whole) left) whole) ++ leaves_of (drop (left_bytes (length whole) left) whole)
whole-leaves whole left large =
    let c = leaf_count (left_bytes (length whole) left) in
    sym (take-append-drop c (leaves_of whole))
    ∙ ap (λ (first : List (List ℕ)). first ++ drop c (leaves_of whole)) (first_leaves whole left large)
    ∙ ap (λ (second : List (List ℕ)). leaves_of (take (left_bytes (length whole) left) whole) ++ second) (second_leaves whole left large)

known-one : (bytes : List ℕ) (nd : Node) → IsNode (length bytes) nd → size_of nd ≤ BLOCK → map (known bytes) (nd.ident ∷ []) ≡ leaves_of (bytes_at bytes nd.span)
known-one bytes nd is small =
    let whole = bytes_at bytes nd.span in
    let width = long bytes nd is in
    ap (λ (hash : List ℕ). hash ∷ []) (known-node bytes nd is ∙ tree-leaf whole (is_left nd.ident) (omega (arith, width, small)))
    ∙ sym (leaves_of-one whole (omega (arith, width, is.some)) (omega (arith, width, small)))

known-leaves : (levels : ℕ) (bytes : List ℕ) (nd : Node) → IsNode (length bytes) nd → size_of nd ≤ PART → div_ceil (size_of nd) BLOCK ≤ 2 ^ levels
    → map (known bytes) (leaf_idents levels nd) ≡ leaves_of (bytes_at bytes nd.span)
known-leaves zero bytes nd is small fits =
    ap (map (known bytes)) (leaf_idents-none zero nd refl) ∙ known-one bytes nd is (omega arith)
known-leaves (suc levels) bytes nd is small fits =
    elim (cases_lt BLOCK (size_of nd)) [
      | inr little ↦ ap (map (known bytes)) (leaf_idents-leaf (suc levels) nd little) ∙ known-one bytes nd is little
      | inl large ↦
          let whole = bytes_at bytes nd.span in
          let large' : BLOCK < length whole = omega (arith, long bytes nd is, large) in
          let parts = blocks-below levels nd large small fits in
          let fewer : suc levels - 1 ≡ levels = omega arith in
          let lefts = leaf_idents levels (left_child nd) in
          let rights = leaf_idents levels (right_child nd) in
          let split : leaf_idents (suc levels) nd ≡ lefts ++ rights =
          leaf_idents-branch (suc levels) nd (omega arith) large ∙ ap (λ (n : ℕ). leaf_idents n (left_child nd) ++ leaf_idents n (right_child nd)) fewer in
          let first = known-leaves levels bytes (left_child nd) (left-node (length bytes) nd is large) parts.left-small parts.left in
          let second = known-leaves levels bytes (right_child nd) (right-node (length bytes) nd is large) parts.right-small parts.right in
          ap (map (known bytes)) split
          ∙ map-append (known bytes) lefts rights
          ∙ ap (λ (left : List (List ℕ)). left ++ map (known bytes) rights) (first ∙ ap leaves_of (sym (left-bytes bytes nd is large)))
          ∙ ap (λ (right : List (List ℕ)). leaves_of (take (left_bytes (length whole) (is_left nd.ident)) whole) ++ right) (second ∙ ap leaves_of (sym (right-bytes bytes nd is large)))
          ∙ sym (whole-leaves whole (is_left nd.ident) large')
    ]

-- the leaves of a part's bytes are the part's
leaf-of_part : (bytes : List ℕ) (i k : ℕ) → length (part bytes i) ≤ PART → leaf (part bytes i) 0 k ≡ leaf bytes i k
unfolding leaf
leaf-of_part bytes i k small = ap (λ (whole : List ℕ). sha1 (take BLOCK (drop (k * BLOCK) whole))) (take_all PART (part bytes i) small)

part-width : (n i : ℕ) → i < data_parts n → min ((i + 1) * PART) n - i * PART ≤ PART
part-width n i exists = omega arith

part-length : (n i rest len : ℕ) → rest ≡ n - i * PART → len ≡ min PART rest → i < data_parts n → len ≡ min ((i + 1) * PART) n - i * PART
part-length n i rest len behind cut exists = omega arith

parts-leaves : (k : ℕ) → k ≤ PART → leaf_count k ≡ div_ceil k BLOCK
parts-leaves k small = omega arith

few-blocks : (n i : ℕ) → block_count n i ≤ 53
few-blocks n i = omega arith

in-part : (k c : ℕ) → k < c → c ≤ 53 → (k / 53 ≡ 0) × (k % 53 ≡ k)
in-part k c within few = (omega arith, omega arith)

leaf-same : (bytes : List ℕ) (i k : ℕ) → length (part bytes i) ≤ PART → k < block_count (length bytes) i → leaf_count (length (part bytes i)) ≡ block_count (length bytes) i
    → get_or (leaves_of (part bytes i)) k [] ≡ get_or (part_leaves bytes i) k []
leaf-same bytes i k small within count =
    let place = in-part k (block_count (length bytes) i) within (few-blocks (length bytes) i) in
    get_or-leaves_of (part bytes i) k (subst (λ (c : ℕ). k < c) (sym count) within)
    ∙ ap (λ (j : ℕ). leaf (part bytes i) j (k % 53)) place.0
    ∙ ap (λ (j : ℕ). leaf (part bytes i) 0 j) place.1
    ∙ leaf-of_part bytes i k small
    ∙ sym (get_or-map-range_with_len (leaf bytes i) 0 (block_count (length bytes) i) k k [] within (zero-add k))

leaves-of_part : (bytes : List ℕ) (i : ℕ) → i < data_parts (length bytes) → leaves_of (part bytes i) ≡ part_leaves bytes i
leaves-of_part bytes i exists =
    let n = length bytes in
    let m = part bytes i in
    let width = part-length n i (length (drop (i * PART) bytes)) (length m) (length-drop (i * PART) bytes) (length-take PART (drop (i * PART) bytes)) exists in
    let small : length m ≤ PART = subst (λ (k : ℕ). k ≤ PART) (sym width) (part-width n i exists) in
    let count : leaf_count (length m) ≡ block_count n i = parts-leaves (length m) small ∙ ap (λ (k : ℕ). div_ceil k BLOCK) width in
    let all = length-leaves_of m ∙ count in
    ext_get_or [] (leaves_of m) (part_leaves bytes i)
    (all ∙ sym (length-map-range_with_len (leaf bytes i) 0 (block_count n i)))
    (λ k below. leaf-same bytes i k small (subst (λ (c : ℕ). k < c) all below) count)

-- the bytes of a part's node are the part's
part-bytes : (bytes : List ℕ) (i s e : ℕ) → i < data_parts (length bytes) → s ≡ i * PART → e ≡ min ((i + 1) * PART) (length bytes) → take (e - s) (drop s bytes) ≡ part bytes i
part-bytes bytes i s e exists start end =
    let rest = length-drop (i * PART) bytes in
    ap (λ (k : ℕ). take (e - k) (drop k bytes)) start
    ∙ elim (cases_lt (length bytes) ((i + 1) * PART)) [
      | inl short ↦
          take_all (e - i * PART) (drop (i * PART) bytes) (omega (arith, rest, end))
          ∙ sym (take_all PART (drop (i * PART) bytes) (omega (arith, rest)))
      | inr enough ↦ let width : e - i * PART ≡ PART = omega (arith, end) in ap (λ (k : ℕ). take k (drop (i * PART) bytes)) width
    ]

agreed : (bytes : List ℕ) (hash : ℕ → List ℕ) (xs : List ℕ) → AllByRecursion (Agrees bytes hash) xs → map hash xs ≡ map (known bytes) xs
agreed bytes hash [] agree = refl
agreed bytes hash (x ∷ xs) agree =
    ap (λ (first : List ℕ). first ∷ map hash xs) agree.0 ∙ ap (λ (others : List (List ℕ)). known bytes x ∷ others) (agreed bytes hash xs agree.1)

-- hashes that are the tree's on a part's path give the part's leaves
pub leaves-tree : (bytes : List ℕ) (i : ℕ) (hash : ℕ → List ℕ) → IsSize (length bytes) → i < data_parts (length bytes) → AllByRecursion (Agrees bytes hash) (path (length bytes) i)
    → map hash (leaves_on (length bytes) i) ≡ part_leaves bytes i
leaves-tree bytes i hash limits exists agree =
    let nd = part_node PART_LEVELS (root_of (length bytes)) (i * PART) in
    let end = reached (length bytes) i limits exists in
    let width : size_of nd ≡ min ((i + 1) * PART) (length bytes) - i * PART = omega (arith, end.s, end.e) in
    let small : size_of nd ≤ PART = omega (arith, width, part-width (length bytes) i exists) in
    agreed bytes hash (leaves_on (length bytes) i) (all-behind (Agrees bytes hash) (siblings PART_LEVELS (root_of (length bytes)) (i * PART)) (leaves_on (length bytes) i) agree)
    ∙ known-leaves BLOCK_LEVELS bytes nd end.is small (omega (arith, small))
    ∙ ap leaves_of (part-bytes bytes i nd.span.s nd.span.e exists end.s end.e)
    ∙ leaves-of_part bytes i exists

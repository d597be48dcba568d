-- Recovery data that is made from a tree.
use Rattle.std.proofs.Common.{arith, ◌≡◌, ℕ, zero, suc, ◌+◌, ◌-◌, ◌*◌, ◌<◌, ◌≤◌, ◌^◌, Bool, true, nat_eq, List, [], ◌∷◌, ◌++◌, length, get_or, take, map, flat_map, Option, option_map, unwrap_or, IsSome, IsPermutation, refl, sym, ap, subst, ◌∙◌, append_assoc, append-nil, take_all, inl, inr, eqb-true}
use Rattle.std.specs.List.{AllByRecursion}
use Rattle.std.proofs.lemmas.Bool.{cases_lt, cases_Bool}
use Rattle.std.proofs.lemmas.List.{length-map, take_more, map-append}
use Rattle.std.proofs.lemmas.List.Concat.{flat_map-append}
use Rattle.std.proofs.lemmas.List.Elements.{All-from_recursion}
use Rattle.std.proofs.lemmas.List.Sorted.{IsPermutation-refl}
use Rattle.byteorder.specs.Endian.{little_bytes}
use Rattle.sha1.specs.Sha1.{sha1, digest_bytes}
use Rattle.part_sizes.specs.declared.span.Span.{Span}
use Rattle.part_sizes.specs.Part.{IsSize, data_parts}
use Rattle.part_sizes.specs.declared.part.TheConstants.{PART}
use Rattle.part_sizes.specs.declared.block.TheConstants.{BLOCK}
use Rattle.aich_tree.specs.Ident.{bytes_at, is_left, node}
use Rattle.aich_tree.specs.Leaves.{part_leaves}
use Rattle.aich_tree.specs.Tree.{tree}
use Rattle.aich_tree.proofs.TreeLemmas.{tree-leaf, tree-branch}
use Rattle.aich_packet.specs.declared.layout.Pair.{Pair}
use Rattle.aich_packet.specs.declared.node.Node.{Node}
use Rattle.aich_packet.specs.declared.way.TheConstants.{PART_LEVELS, BLOCK_LEVELS}
use Rattle.aich_packet.specs.Judging.{is_among}
use Rattle.aich_packet.specs.Layout.{spell_pair, spell}
use Rattle.aich_packet.specs.Packet.{IsPair, Packet, idents_of, hash_of, path_pairs}
use Rattle.aich_packet.specs.Way.{root_of, size_of, middle, left_child, right_child, leaf_idents, path}
use Rattle.aich_packet.proofs.Distinct.{all-append, all-at, all-map}
use Rattle.aich_packet.proofs.Members.{each-among}
use Rattle.aich_packet.proofs.Nodes.{StandsIn, root-node, way-stands, below, below-none, below-part, below-left, below-right}
use Rattle.aich_packet.proofs.Reached.{length-path}
use Rattle.aich_packet.proofs.Routes.{leaf_idents-none, leaf_idents-leaf, leaf_idents-branch, room_below, room_right, room_here}
use Rattle.aich_packet.proofs.Trees.{known, Agrees, folds-tree, leaves-tree}

-- ---- identifiers fit two bytes

abbrev Fits : ℕ → Type 0
Fits ident = ident < 2 ^ 16

leaves-fit : (levels : ℕ) (nd : Node) → (nd.ident + 1) * 2 ^ levels ≤ 65536 → AllByRecursion Fits (leaf_idents levels nd)
leaves-fit zero nd room =
    subst (AllByRecursion Fits) (sym (leaf_idents-none zero nd refl)) (room_here nd.ident zero 65536 room, tt)
leaves-fit (suc levels) nd room =
    elim (cases_lt BLOCK (size_of nd)) [
      | inr small ↦
          subst (AllByRecursion Fits) (sym (leaf_idents-leaf (suc levels) nd small)) (room_here nd.ident (suc levels) 65536 room, tt)
      | inl large ↦
          let fewer : suc levels - 1 ≡ levels = omega arith in
          let left = subst (λ (n : ℕ). (2 * nd.ident + 1 + 1) * 2 ^ n ≤ 65536) fewer (room_below nd.ident (suc levels) 65536 (omega arith) room) in
          let right = subst (λ (n : ℕ). (2 * nd.ident + 1) * 2 ^ n ≤ 65536) fewer (room_right nd.ident (suc levels) 65536 (omega arith) room) in
          subst (AllByRecursion Fits)
          (sym (leaf_idents-branch (suc levels) nd (omega arith) large ∙ ap (λ (n : ℕ). leaf_idents n (left_child nd) ++ leaf_idents n (right_child nd)) fewer))
          (all-append Fits (leaf_idents levels (left_child nd)) (leaf_idents levels (right_child nd)) (leaves-fit levels (left_child nd) left) (leaves-fit levels (right_child nd) right))
    ]

part-room : (ident : ℕ) → ident < 1024 → (ident + 1) * 2 ^ BLOCK_LEVELS ≤ 65536
part-room ident small = omega arith

way-fits : (levels : ℕ) (nd : Node) (at : ℕ) → (nd.ident + 1) * 2 ^ levels ≤ 1024 → AllByRecursion Fits (below levels nd at)
way-fits zero nd at room =
    subst (AllByRecursion Fits) (sym (below-none zero nd at refl)) (leaves-fit BLOCK_LEVELS nd (part-room nd.ident (room_here nd.ident zero 1024 room)))
way-fits (suc levels) nd at room =
    elim (cases_lt PART (size_of nd)) [
      | inr small ↦
          subst (AllByRecursion Fits) (sym (below-part (suc levels) nd at small)) (leaves-fit BLOCK_LEVELS nd (part-room nd.ident (room_here nd.ident (suc levels) 1024 room)))
      | inl large ↦
          let fewer : suc levels - 1 ≡ levels = omega arith in
          let left = subst (λ (n : ℕ). (2 * nd.ident + 1 + 1) * 2 ^ n ≤ 1024) fewer (room_below nd.ident (suc levels) 1024 (omega arith) room) in
          let right = subst (λ (n : ℕ). (2 * nd.ident + 1) * 2 ^ n ≤ 1024) fewer (room_right nd.ident (suc levels) 1024 (omega arith) room) in
          let left-small : 2 * nd.ident + 1 < 1024 = room_here (2 * nd.ident + 1) levels 1024 left in
          let right-small : 2 * nd.ident < 1024 = room_here (2 * nd.ident) levels 1024 right in
          elim (cases_lt at (middle nd)) [
            | inl before ↦ subst (AllByRecursion Fits) (sym (below-left levels nd at large before)) (omega arith, way-fits levels (left_child nd) at left)
            | inr behind ↦ subst (AllByRecursion Fits) (sym (below-right levels nd at large behind)) (omega arith, way-fits levels (right_child nd) at right)
          ]
    ]

-- ---- hashes have twenty bytes

length-digest : (h : List ℕ) → length (digest_bytes h 5) ≡ 20
unfolding digest_bytes
length-digest h = refl

length-sha1 : (bytes : List ℕ) → length (sha1 bytes) ≡ 20
unfolding sha1
length-sha1 bytes = length-digest _

length-tree : (bytes : List ℕ) (left : Bool) → length (tree bytes left) ≡ 20
length-tree bytes left =
    elim (cases_lt BLOCK (length bytes)) [
      | inl large ↦ ap length (tree-branch bytes left large) ∙ length-sha1 _
      | inr small ↦ ap length (tree-leaf bytes left small) ∙ length-sha1 bytes
    ]

length-known : (bytes : List ℕ) (low high x : ℕ) → StandsIn (length bytes) low high x → length (known bytes x) ≡ 20
length-known bytes low high x here =
    ap (λ (found : Option Span). length (unwrap_or (option_map (λ (span : Span). tree (bytes_at bytes span) (is_left x)) found) [])) here.named
    ∙ length-tree (bytes_at bytes here.span) (is_left x)

-- ---- the identifiers on a path name nodes

path-stands : (bytes : List ℕ) (i : ℕ) → 1 ≤ length bytes → AllByRecursion (StandsIn (length bytes) 0 (length bytes)) (path (length bytes) i)
path-stands bytes i some = way-stands PART_LEVELS (length bytes) (root_of (length bytes)) (i * PART) (root-node (length bytes) some)

there : (bytes : List ℕ) (x : ℕ) → StandsIn (length bytes) 0 (length bytes) x → IsSome (node bytes x)
there bytes x here =
    subst (λ (found : Option Span). IsSome (option_map (λ (span : Span). tree (bytes_at bytes span) (is_left x)) found)) (sym here.named) refl

pub path-node : (bytes idents : List ℕ) (i k d : ℕ) → 1 ≤ length bytes → idents ≡ path (length bytes) i → k < length idents → IsSome (node bytes (get_or idents k d))
path-node bytes idents i k d some on within =
    let all = subst (AllByRecursion (StandsIn (length bytes) 0 (length bytes))) (sym on) (path-stands bytes i some) in
    there bytes (get_or idents k d) (all-at (StandsIn (length bytes) 0 (length bytes)) idents k d all within)

-- ---- pairs of identifiers and hashes

abbrev pub pair_with : (ℕ → List ℕ) → ℕ → Pair
pair_with hash ident = record { ident = ident; hash = hash ident }

idents-with : (hash : ℕ → List ℕ) (xs : List ℕ) → idents_of (map (pair_with hash) xs) ≡ xs
idents-with hash [] = refl
idents-with hash (x ∷ xs) = ap (λ (others : List ℕ). x ∷ others) (idents-with hash xs)

hash-with : (hash : ℕ → List ℕ) (xs : List ℕ) (x : ℕ) → is_among xs x ≡ true → hash_of (map (pair_with hash) xs) x ≡ hash x
hash-with hash [] x here = absurd cc
hash-with hash (y ∷ ys) x here =
    elim (cases_Bool (nat_eq y x)) [
      | inl same ↦ rw same (ap hash (eqb-true y x same))
      | inr other ↦ let later : is_among ys x ≡ true = rw other at here in rw other (hash-with hash ys x later)
    ]

agree-with : (bytes xs : List ℕ) → AllByRecursion (Agrees bytes (hash_of (map (pair_with (known bytes)) xs))) xs
agree-with bytes xs =
    all-map (λ x. is_among xs x ≡ true) (Agrees bytes (hash_of (map (pair_with (known bytes)) xs))) (hash-with (known bytes) xs) xs (each-among [] xs)

pairs-with : (bytes xs : List ℕ) → AllByRecursion Fits xs → AllByRecursion (StandsIn (length bytes) 0 (length bytes)) xs → AllByRecursion IsPair (map (pair_with (known bytes)) xs)
pairs-with bytes [] fit stand = tt
pairs-with bytes (x ∷ xs) fit stand =
    (record { ident = fit.0; hash = length-known bytes 0 (length bytes) x stand.0 }, pairs-with bytes xs fit.1 stand.1)

-- ---- the packet

pub made-packet : (bytes : List ℕ) (i : ℕ) (packet : List ℕ) → IsSize (length bytes) → i < data_parts (length bytes) → packet ≡ spell (path_pairs bytes i) ++ little_bytes 2 0
    → Packet (length bytes) (tree bytes true) i packet (part_leaves bytes i)
made-packet bytes i packet limits exists spelled =
    let on = path (length bytes) i in
    let few = length-path (length bytes) i limits exists in
    let agree = agree-with bytes on in
    record {
      pairs = path_pairs bytes i;
      behind = little_bytes 2 0;
      spelled = spelled;
      counted = omega (arith, length-map on (pair_with (known bytes)), few);
      each = All-from_recursion IsPair (path_pairs bytes i) (pairs-with bytes on (way-fits PART_LEVELS (root_of (length bytes)) (i * PART) (omega arith)) (path-stands bytes i limits.0));
      ended = λ one. omega (arith, one);
      on_path = subst (IsPermutation on) (sym (idents-with (known bytes) on)) (IsPermutation-refl on);
      folded = folds-tree bytes i (hash_of (path_pairs bytes i)) limits.0 agree;
      leaves_are = sym (leaves-tree bytes i (hash_of (path_pairs bytes i)) limits exists agree);
    }

-- a further pair
pub more-pairs : (front idents : List ℕ) (hash : ℕ → List ℕ) (k d : ℕ) → k < length idents
    → (front ++ flat_map spell_pair (map (pair_with hash) (take k idents))) ++ spell_pair (pair_with hash (get_or idents k d))
    ≡ front ++ flat_map spell_pair (map (pair_with hash) (take (k + 1) idents))
more-pairs front idents hash k d within =
    let first = map (pair_with hash) (take k idents) in
    let next = pair_with hash (get_or idents k d) in
    append_assoc front (flat_map spell_pair first) (spell_pair next)
    ∙ ap (λ (last : List ℕ). front ++ (flat_map spell_pair first ++ last)) (sym (append-nil (spell_pair next)))
    ∙ ap (λ (text : List ℕ). front ++ text) (sym (flat_map-append spell_pair first (next ∷ [])))
    ∙ ap (λ (pairs : List Pair). front ++ flat_map spell_pair pairs) (sym (ap (map (pair_with hash)) (take_more idents k d within) ∙ map-append (pair_with hash) (take k idents) (get_or idents k d ∷ [])))

-- all of them
pub all-pairs : (items idents bytes : List ℕ) (i k count : ℕ) → items ≡ little_bytes 2 count ++ flat_map spell_pair (map (pair_with (known bytes)) (take k idents))
    → length idents ≤ k → count ≡ length idents → idents ≡ path (length bytes) i → items ++ little_bytes 2 0 ≡ spell (path_pairs bytes i) ++ little_bytes 2 0
all-pairs items idents bytes i k count so_far done all on =
    ap (λ (text : List ℕ). text ++ little_bytes 2 0)
    (so_far
    ∙ ap (λ (xs : List ℕ). little_bytes 2 count ++ flat_map spell_pair (map (pair_with (known bytes)) xs)) (take_all k idents done)
    ∙ ap (λ (n : ℕ). little_bytes 2 n ++ flat_map spell_pair (map (pair_with (known bytes)) idents)) (all ∙ sym (length-map idents (pair_with (known bytes))))
    ∙ ap (λ (xs : List ℕ). spell (map (pair_with (known bytes)) xs)) on)

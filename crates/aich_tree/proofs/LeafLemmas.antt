-- The leaves of bytes that are put together.
use Rattle.std.proofs.Common.{arith, ◌≡◌, sym, ◌∙◌, ap, ℕ, ◌+◌, ◌-◌, ◌*◌, ◌/◌, ◌%◌, ◌<◌, ◌≤◌, List, [], ◌∷◌, ◌++◌, length, take, drop, map, get_or, length-append, length-drop, inl, inr}
use Rattle.std.proofs.lemmas.Bool.{cases_lt}
use Rattle.std.proofs.lemmas.List.{drop-append-le, take-append-le, drop_at, drop-drop, drop-take, take-take, take_all, ext_get_or, get_or_append_left, get_or-append_right}
use Rattle.std.proofs.lemmas.List.FromFn.{get_or-map-range_with_len, length-map-range_with_len}
use Rattle.std.specs.List.{range_with_len}
use Rattle.sha1.specs.Sha1.{sha1}
use Rattle.part_sizes.proofs.Parts.{part-append_left, part-append_right}
use Rattle.part_sizes.specs.declared.part.TheConstants.{PART}
use Rattle.part_sizes.specs.declared.block.TheConstants.{BLOCK}
use Rattle.part_sizes.specs.Part.{part}
use Rattle.aich_tree.specs.Leaves.{leaf, leaf_count, leaves_of, ended_count}

leaf_from_part : (m y : List ℕ) (i j k : ℕ) → part m i ≡ part y j → leaf m i k ≡ leaf y j k
unfolding leaf
leaf_from_part m y i j k same = ap (λ (bytes : List ℕ). sha1 (take BLOCK (drop (k * BLOCK) bytes))) same

-- a block within a part
abbrev cut : ℕ → List ℕ → List ℕ
cut k bytes = take BLOCK (drop (k * BLOCK) bytes)

cut-take : (k : ℕ) (bytes : List ℕ) → (k + 1) * BLOCK ≤ PART → cut k (take PART bytes) ≡ cut k bytes
cut-take k bytes fits =
    let e : (k + 1) * BLOCK ≡ k * BLOCK + BLOCK = omega arith in
    sym (drop-take (k * BLOCK) BLOCK (take PART bytes))
    ∙ ap (λ (front : List ℕ). drop (k * BLOCK) front) (take-take (k * BLOCK + BLOCK) PART bytes (omega (arith, fits)))
    ∙ drop-take (k * BLOCK) BLOCK bytes

cut-append_left : (k : ℕ) (m y : List ℕ) → (k + 1) * BLOCK ≤ length m → cut k (m ++ y) ≡ cut k m
cut-append_left k m y fits =
    let before : k * BLOCK ≤ length m = omega (arith, fits) in
    let long : BLOCK ≤ length (drop (k * BLOCK) m) = omega (arith, fits, length-drop (k * BLOCK) m) in
    ap (λ (rest : List ℕ). take BLOCK rest) (drop-append-le (k * BLOCK) m y before)
    ∙ take-append-le BLOCK (drop (k * BLOCK) m) y long

-- a leaf whose block has ended stays
leaf-block_stays : (m y : List ℕ) (i k : ℕ) → i * PART + (k + 1) * BLOCK ≤ length m → (k + 1) * BLOCK ≤ PART → leaf (m ++ y) i k ≡ leaf m i k
unfolding leaf
leaf-block_stays m y i k ended fits =
    let before : i * PART ≤ length m = omega (arith, ended) in
    let long : (k + 1) * BLOCK ≤ length (drop (i * PART) m) = omega (arith, ended, length-drop (i * PART) m) in
    ap sha1
    (cut-take k (drop (i * PART) (m ++ y)) fits
    ∙ ap (λ (rest : List ℕ). cut k rest) (drop-append-le (i * PART) m y before)
    ∙ cut-append_left k (drop (i * PART) m) y long
    ∙ sym (cut-take k (drop (i * PART) m) fits))

leaf-part_stays : (m y : List ℕ) (i k : ℕ) → (i + 1) * PART ≤ length m → leaf (m ++ y) i k ≡ leaf m i k
leaf-part_stays m y i k ended = leaf_from_part (m ++ y) m i i k (part-append_left m y i ended)

-- the last leaf has the bytes from its place on
pub leaf-last : (m : List ℕ) (i k : ℕ) → length m ≤ (i + 1) * PART → length m ≤ i * PART + (k + 1) * BLOCK → leaf m i k ≡ sha1 (drop (i * PART + k * BLOCK) m)
unfolding leaf
leaf-last m i k in_part in_block =
    let short : length (drop (i * PART) m) ≤ PART = omega (arith, in_part, length-drop (i * PART) m) in
    let short' : length (drop (i * PART + k * BLOCK) m) ≤ BLOCK = omega (arith, in_block, length-drop (i * PART + k * BLOCK) m) in
    ap sha1
    (ap (λ (bytes : List ℕ). cut k bytes) (take_all PART (drop (i * PART) m) short)
    ∙ ap (λ (bytes : List ℕ). take BLOCK bytes) (drop-drop (k * BLOCK) (i * PART) m)
    ∙ take_all BLOCK (drop (i * PART + k * BLOCK) m) short')

abbrev pub nth_leaf : List ℕ → ℕ → List ℕ
nth_leaf m j = leaf m (j / 53) (j % 53)

-- ---- the leaves of a whole

pub length-leaves_of : (m : List ℕ) → length (leaves_of m) ≡ leaf_count (length m)
unfolding leaves_of
length-leaves_of m = length-map-range_with_len (nth_leaf m) 0 (leaf_count (length m))

pub get_or-leaves_of : (m : List ℕ) (j : ℕ) → j < leaf_count (length m) → get_or (leaves_of m) j [] ≡ leaf m (j / 53) (j % 53)
unfolding leaves_of
get_or-leaves_of m j below = get_or-map-range_with_len (nth_leaf m) 0 (leaf_count (length m)) j j [] below (omega arith)

-- the leaves of two lists of bytes together, by what each leaf is
joined_leaves : (m y : List ℕ) (c : ℕ) → leaf_count (length m) ≡ c → leaf_count (length (m ++ y)) ≡ c + leaf_count (length y)
    → ((j : ℕ) → j < c → leaf (m ++ y) (j / 53) (j % 53) ≡ leaf m (j / 53) (j % 53))
    → ((j : ℕ) → c ≤ j → j < c + leaf_count (length y) → leaf (m ++ y) (j / 53) (j % 53) ≡ leaf y ((j - c) / 53) ((j - c) % 53))
    → leaves_of (m ++ y) ≡ leaves_of m ++ leaves_of y
joined_leaves m y c mine all left right =
    let total = length-leaves_of (m ++ y) ∙ all in
    let here = length-leaves_of m ∙ mine in
    let there = length-leaves_of y in
    ext_get_or [] (leaves_of (m ++ y)) (leaves_of m ++ leaves_of y)
    (total ∙ sym (length-append (leaves_of m) (leaves_of y) ∙ ap (λ (n : ℕ). n + length (leaves_of y)) here ∙ ap (λ (n : ℕ). c + n) there))
    (λ j below.
    get_or-leaves_of (m ++ y) j (omega (arith, below, total, all))
    ∙ elim (cases_lt j c) [
      | inl before ↦
          left j before
          ∙ sym (get_or-leaves_of m j (omega (arith, before, mine)))
          ∙ sym (get_or_append_left (leaves_of m) (leaves_of y) [] j (omega (arith, before, here)))
      | inr behind ↦
          right j behind (omega (arith, below, total))
          ∙ sym (get_or-leaves_of y (j - c) (omega (arith, behind, below, total)))
          ∙ sym (get_or-append_right (leaves_of m) (leaves_of y) c j [] here behind)
    ])

-- cut at the end of a part
pub leaves_of-parts : (m y : List ℕ) (j : ℕ) → length m ≡ j * PART → leaves_of (m ++ y) ≡ leaves_of m ++ leaves_of y
leaves_of-parts m y j whole =
    joined_leaves m y (j * 53) (omega (arith, whole)) (omega (arith, whole, length-append m y))
    (λ q below. leaf-part_stays m y (q / 53) (q % 53) (omega (arith, whole, below)))
    (λ q above below.
    let place : q / 53 ≡ j + (q - j * 53) / 53 = omega (arith, above) in
    let same : q % 53 ≡ (q - j * 53) % 53 = omega (arith, above) in
    ap (λ (i : ℕ). leaf (m ++ y) i (q % 53)) place
    ∙ ap (λ (k : ℕ). leaf (m ++ y) (j + (q - j * 53) / 53) k) same
    ∙ leaf_from_part (m ++ y) y (j + (q - j * 53) / 53) ((q - j * 53) / 53) ((q - j * 53) % 53) (part-append_right m y j ((q - j * 53) / 53) whole))

first_leaf : (m : List ℕ) (k : ℕ) → length m ≤ PART → leaf m 0 k ≡ sha1 (cut k m)
unfolding leaf
first_leaf m k small = ap (λ (bytes : List ℕ). sha1 (cut k bytes)) (take_all PART m small)

cut-append_right : (m y : List ℕ) (j i : ℕ) → length m ≡ j * BLOCK → cut (j + i) (m ++ y) ≡ cut i y
cut-append_right m y j i whole =
    let place : (j + i) * BLOCK ≡ j * BLOCK + i * BLOCK = omega arith in
    ap (λ (n : ℕ). take BLOCK (drop n (m ++ y))) place
    ∙ ap (λ (rest : List ℕ). take BLOCK rest) (sym (drop-drop (i * BLOCK) (j * BLOCK) (m ++ y)))
    ∙ ap (λ (rest : List ℕ). take BLOCK (drop (i * BLOCK) rest)) (drop_at m y (j * BLOCK) whole)

-- cut at the end of a block, within a part
pub leaves_of-blocks : (m y : List ℕ) (j : ℕ) → length m ≡ j * BLOCK → length (m ++ y) ≤ PART → leaves_of (m ++ y) ≡ leaves_of m ++ leaves_of y
leaves_of-blocks m y j whole small =
    let total = length-append m y in
    let mine : length m ≤ PART = omega (arith, total, small) in
    let yours : length y ≤ PART = omega (arith, total, small) in
    let few : j ≤ 52 = omega (arith, mine, whole) in
    joined_leaves m y j (omega (arith, whole, few)) (omega (arith, whole, total, small, few))
    (λ q below.
    let none : q / 53 ≡ 0 = omega (arith, below, few) in
    let same : q % 53 ≡ q = omega (arith, below, few) in
    ap (λ (i : ℕ). leaf (m ++ y) i (q % 53)) none
    ∙ ap (λ (k : ℕ). leaf (m ++ y) 0 k) same
    ∙ leaf-block_stays m y 0 q (omega (arith, whole, below)) (omega (arith, few, below))
    ∙ ap (λ (k : ℕ). leaf m 0 k) (sym same)
    ∙ ap (λ (i : ℕ). leaf m i (q % 53)) (sym none))
    (λ q above below.
    let bound : q < 53 = omega (arith, below, whole, total, small) in
    let none : q / 53 ≡ 0 = omega (arith, bound) in
    let same : q % 53 ≡ j + (q - j) = omega (arith, bound, above) in
    let none' : (q - j) / 53 ≡ 0 = omega (arith, bound) in
    let same' : (q - j) % 53 ≡ q - j = omega (arith, bound) in
    ap (λ (i : ℕ). leaf (m ++ y) i (q % 53)) none
    ∙ ap (λ (k : ℕ). leaf (m ++ y) 0 k) same
    ∙ first_leaf (m ++ y) (j + (q - j)) small
    ∙ ap sha1 (cut-append_right m y j (q - j) whole)
    ∙ sym (first_leaf y (q - j) yours)
    ∙ ap (λ (k : ℕ). leaf y 0 k) (sym same')
    ∙ ap (λ (i : ℕ). leaf y i ((q - j) % 53)) (sym none'))

-- a node of one block is its own leaf
pub leaves_of-one : (m : List ℕ) → 0 < length m → length m ≤ BLOCK → leaves_of m ≡ sha1 m ∷ []
unfolding leaves_of
leaves_of-one m some small =
    let one : leaf_count (length m) ≡ 1 = omega (arith, some, small) in
    ap (λ (n : ℕ). map (nth_leaf m) (range_with_len 0 n)) one
    ∙ ap (λ (hash : List ℕ). hash ∷ []) (leaf-last m 0 0 (omega (arith, small)) (omega (arith, small)))

-- a leaf that has ended stays when bytes come behind
pub leaf_stays : (m y : List ℕ) (j : ℕ) → j < ended_count (length m) → leaf (m ++ y) (j / 53) (j % 53) ≡ leaf m (j / 53) (j % 53)
leaf_stays m y j ended =
    elim (cases_lt (j / 53) (length m / PART)) [
      | inl whole ↦ leaf-part_stays m y (j / 53) (j % 53) (omega (arith, whole))
      | inr last ↦ leaf-block_stays m y (j / 53) (j % 53) (omega (arith, ended, last)) (omega (arith, ended, last))
    ]

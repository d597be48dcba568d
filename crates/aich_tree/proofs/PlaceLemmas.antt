-- A node's leaves are those of its children put together.
use Rattle.std.proofs.Common.{arith, ◌≡◌, sym, ◌∙◌, ap, ℕ, ◌+◌, ◌-◌, ◌*◌, ◌/◌, ◌%◌, ◌<◌, ◌≤◌, Bool, List, [], ◌++◌, length, take, drop, length-drop, inl, inr}
use Rattle.std.proofs.lemmas.Bool.{cases_lt}
use Rattle.std.proofs.lemmas.List.{take_at, drop_at, drop-drop, drop-take, take-take, take_all, take-append-drop, length-take-le, ext_get_or, get_or-take, get_or-drop}
use Rattle.std.proofs.lemmas.List.FromFn.{get_or-map-range_with_len, length-map-range_with_len}
use Rattle.std.specs.Int.{div_ceil}
use Rattle.part_sizes.specs.Part.{data_parts}
use Rattle.part_sizes.specs.Block.{block_count}
use Rattle.part_sizes.specs.declared.part.TheConstants.{PART}
use Rattle.part_sizes.specs.declared.block.TheConstants.{BLOCK}
use Rattle.aich_tree.specs.Leaves.{leaf, leaf_count, leaves_of, part_leaves}
use Rattle.aich_tree.specs.Places.{IsPlaceOf}
use Rattle.aich_tree.specs.Tree.{left_bytes}
use Rattle.aich_tree.proofs.Division.{flag, left_bytes-parts, left_bytes-blocks, left_bytes-some, left_bytes-proper}
use Rattle.aich_tree.proofs.LeafLemmas.{leaves_of-parts, leaves_of-blocks, length-leaves_of, get_or-leaves_of}

pub leaf_count-split : (n : ℕ) (left : Bool) → BLOCK < n → leaf_count n ≡ leaf_count (left_bytes n left) + leaf_count (n - left_bytes n left)
leaf_count-split n left large =
    let proper = left_bytes-proper n left large in
    elim (cases_lt PART n) [
      | inl parts ↦ let e = left_bytes-parts n left parts in omega arith
      | inr blocks ↦ let e = left_bytes-blocks n left blocks in omega arith
    ]

abbrev first : List ℕ → Bool → List ℕ
first bytes left = take (left_bytes (length bytes) left) bytes

abbrev second : List ℕ → Bool → List ℕ
second bytes left = drop (left_bytes (length bytes) left) bytes

both : (bytes : List ℕ) (left : Bool) → first bytes left ++ second bytes left ≡ bytes
both bytes left = take-append-drop (left_bytes (length bytes) left) bytes

length-first : (bytes : List ℕ) (left : Bool) → BLOCK < length bytes → length (first bytes left) ≡ left_bytes (length bytes) left
length-first bytes left large =
    length-take-le (left_bytes (length bytes) left) bytes (omega (arith, left_bytes-proper (length bytes) left large))

halves : (bytes : List ℕ) (left : Bool) → BLOCK < length bytes → leaves_of (first bytes left ++ second bytes left) ≡ leaves_of (first bytes left) ++ leaves_of (second bytes left)
halves bytes left large =
    let n = length bytes in
    let long = length-first bytes left large in
    elim (cases_lt PART n) [
      | inl parts ↦ leaves_of-parts (first bytes left) (second bytes left) ((div_ceil n PART + flag left) / 2) (long ∙ left_bytes-parts n left parts)
      | inr blocks ↦
          leaves_of-blocks (first bytes left) (second bytes left) ((div_ceil n BLOCK + flag left) / 2) (long ∙ left_bytes-blocks n left blocks)
          (omega (arith, ap length (both bytes left), blocks))
    ]

together : (bytes : List ℕ) (left : Bool) → BLOCK < length bytes → leaves_of bytes ≡ leaves_of (first bytes left) ++ leaves_of (second bytes left)
together bytes left large = ap leaves_of (sym (both bytes left)) ∙ halves bytes left large

length-first_leaves : (bytes : List ℕ) (left : Bool) → BLOCK < length bytes → length (leaves_of (first bytes left)) ≡ leaf_count (left_bytes (length bytes) left)
length-first_leaves bytes left large = length-leaves_of (first bytes left) ∙ ap leaf_count (length-first bytes left large)

pub first_leaves : (bytes : List ℕ) (left : Bool) → BLOCK < length bytes
    → take (leaf_count (left_bytes (length bytes) left)) (leaves_of bytes) ≡ leaves_of (take (left_bytes (length bytes) left) bytes)
first_leaves bytes left large =
    ap (λ (leaves : List (List ℕ)). take (leaf_count (left_bytes (length bytes) left)) leaves) (together bytes left large)
    ∙ take_at (leaves_of (first bytes left)) (leaves_of (second bytes left)) (leaf_count (left_bytes (length bytes) left)) (length-first_leaves bytes left large)

pub second_leaves : (bytes : List ℕ) (left : Bool) → BLOCK < length bytes
    → drop (leaf_count (left_bytes (length bytes) left)) (leaves_of bytes) ≡ leaves_of (drop (left_bytes (length bytes) left) bytes)
second_leaves bytes left large =
    ap (λ (leaves : List (List ℕ)). drop (leaf_count (left_bytes (length bytes) left)) leaves) (together bytes left large)
    ∙ drop_at (leaves_of (first bytes left)) (leaves_of (second bytes left)) (leaf_count (left_bytes (length bytes) left)) (length-first_leaves bytes left large)

-- ---- the places of children

pub length-bytes_at : (bytes : List ℕ) (size s e : ℕ) → length bytes ≡ size → e ≤ size → length (take (e - s) (drop s bytes)) ≡ e - s
length-bytes_at bytes size s e count within =
    length-take-le (e - s) (drop s bytes) (omega (arith, count, within, length-drop s bytes))

pub root-place : (size : ℕ) → 1 ≤ size → IsPlaceOf size (record { s = 0; e = size }) 0
root-place size some =
    record {
      some = some;
      within = omega arith;
      count = omega arith;
      leaves = λ bytes count.
          ap leaves_of (take_all (size - 0) bytes (omega (arith, count)))
          ∙ sym (take_all (leaf_count (size - 0)) (leaves_of bytes) (omega (arith, count, length-leaves_of bytes)));
    }

pub left-place : (size s e place : ℕ) (left : Bool) → BLOCK < e - s → IsPlaceOf size (record { s = s; e = e }) place
    → IsPlaceOf size (record { s = s; e = s + left_bytes (e - s) left }) place
left-place size s e place left large parent =
    let l = left_bytes (e - s) left in
    let some = left_bytes-some (e - s) left large in
    let proper = left_bytes-proper (e - s) left large in
    let split = leaf_count-split (e - s) left large in
    let width : s + l - s ≡ l = omega arith in
    record {
      some = omega (arith, some);
      within = omega (arith, proper, parent.within);
      count = omega (arith, split, parent.count, ap leaf_count width);
      leaves = λ bytes count.
          let whole = take (e - s) (drop s bytes) in
          let long : length whole ≡ e - s = length-bytes_at bytes size s e count parent.within in
          let large' : BLOCK < length whole = omega (arith, long, large) in
          ap (λ (n : ℕ). leaves_of (take n (drop s bytes))) width
          ∙ ap leaves_of (sym (take-take l (e - s) (drop s bytes) (omega (arith, proper))))
          ∙ ap (λ (n : ℕ). leaves_of (take (left_bytes n left) whole)) (sym long)
          ∙ sym (first_leaves whole left large')
          ∙ ap (λ (n : ℕ). take (leaf_count (left_bytes n left)) (leaves_of whole)) long
          ∙ ap (λ (leaves : List (List ℕ)). take (leaf_count l) leaves) (parent.leaves bytes count)
          ∙ take-take (leaf_count l) (leaf_count (e - s)) (drop place (leaves_of bytes)) (omega (arith, split))
          ∙ ap (λ (n : ℕ). take (leaf_count n) (drop place (leaves_of bytes))) (sym width);
    }

pub right-place : (size s e place : ℕ) (left : Bool) → BLOCK < e - s → IsPlaceOf size (record { s = s; e = e }) place
    → IsPlaceOf size (record { s = s + left_bytes (e - s) left; e = e }) (place + leaf_count (left_bytes (e - s) left))
right-place size s e place left large parent =
    let l = left_bytes (e - s) left in
    let some = left_bytes-some (e - s) left large in
    let proper = left_bytes-proper (e - s) left large in
    let split = leaf_count-split (e - s) left large in
    let width : e - (s + l) ≡ e - s - l = omega arith in
    let all : e - s ≡ l + (e - s - l) = omega (arith, proper) in
    record {
      some = omega (arith, proper);
      within = parent.within;
      count = omega (arith, split, parent.count, ap leaf_count width);
      leaves = λ bytes count.
          let whole = take (e - s) (drop s bytes) in
          let long : length whole ≡ e - s = length-bytes_at bytes size s e count parent.within in
          let large' : BLOCK < length whole = omega (arith, long, large) in
          ap (λ (n : ℕ). leaves_of (take n (drop (s + l) bytes))) width
          ∙ ap (λ (rest : List ℕ). leaves_of (take (e - s - l) rest)) (sym (drop-drop l s bytes))
          ∙ ap leaves_of (sym (drop-take l (e - s - l) (drop s bytes)))
          ∙ ap (λ (n : ℕ). leaves_of (drop l (take n (drop s bytes)))) (sym all)
          ∙ ap (λ (n : ℕ). leaves_of (drop (left_bytes n left) whole)) (sym long)
          ∙ sym (second_leaves whole left large')
          ∙ ap (λ (n : ℕ). drop (leaf_count (left_bytes n left)) (leaves_of whole)) long
          ∙ ap (λ (leaves : List (List ℕ)). drop (leaf_count l) leaves) (parent.leaves bytes count)
          ∙ ap (λ (n : ℕ). drop (leaf_count l) (take n (drop place (leaves_of bytes)))) split
          ∙ drop-take (leaf_count l) (leaf_count (e - s - l)) (drop place (leaves_of bytes))
          ∙ ap (λ (rest : List (List ℕ)). take (leaf_count (e - s - l)) rest) (drop-drop (leaf_count l) place (leaves_of bytes))
          ∙ ap (λ (n : ℕ). take (leaf_count n) (drop (place + leaf_count l) (leaves_of bytes))) (sym width);
    }

-- ---- the leaves of a part

pub part_leaves-fit : (n part : ℕ) → part < data_parts n → part * 53 + block_count n part ≤ leaf_count n
part_leaves-fit n part exists = omega (arith, exists)

few_blocks : (n part : ℕ) → block_count n part ≤ 53
few_blocks n part = omega arith

pub part_leaves-slice : (m : List ℕ) (part : ℕ) → part < data_parts (length m)
    → take (block_count (length m) part) (drop (part * 53) (leaves_of m)) ≡ part_leaves m part
part_leaves-slice m part exists =
    let c = block_count (length m) part in
    let fit = part_leaves-fit (length m) part exists in
    let few = few_blocks (length m) part in
    let rest = length-drop (part * 53) (leaves_of m) in
    let long : length (take c (drop (part * 53) (leaves_of m))) ≡ c =
    length-take-le c (drop (part * 53) (leaves_of m)) (omega (arith, fit, rest, length-leaves_of m)) in
    ext_get_or [] (take c (drop (part * 53) (leaves_of m))) (part_leaves m part)
    (long ∙ sym (length-map-range_with_len (leaf m part) 0 c))
    (λ k below.
    let within : k < c = omega (arith, below, long) in
    let part_of : (part * 53 + k) / 53 ≡ part = omega (arith, within, few) in
    let block_of : (part * 53 + k) % 53 ≡ k = omega (arith, within, few) in
    get_or-take c (drop (part * 53) (leaves_of m)) k [] within
    ∙ get_or-drop (part * 53) (leaves_of m) k []
    ∙ get_or-leaves_of m (part * 53 + k) (omega (arith, within, fit))
    ∙ ap (λ (i : ℕ). leaf m i ((part * 53 + k) % 53)) part_of
    ∙ ap (λ (j : ℕ). leaf m part j) block_of
    ∙ sym (get_or-map-range_with_len (leaf m part) 0 c k k [] within (omega arith)))

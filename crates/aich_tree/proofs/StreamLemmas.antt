-- Leaves as bytes come piece by piece.
use Rattle.std.proofs.Common.{arith, ◌≡◌, sym, ◌∙◌, ap, ℕ, ◌+◌, ◌*◌, ◌/◌, ◌%◌, ◌<◌, ◌≤◌, List, [], ◌∷◌, ◌++◌, length, take, drop, map, ◌-◌, length-append, length-drop}
use Rattle.std.proofs.lemmas.List.{drop-append-le, drop_all, drop_at, drop-drop, ext_get_or, append_assoc, take-append-drop, length-take-le}
use Rattle.std.proofs.lemmas.List.FromFn.{get_or-map-range_with_len, length-map-range_with_len, map-range_with_len_more}
use Rattle.std.specs.List.{range_with_len}
use Rattle.sha1.specs.declared.Sha1.{Sha1}
use Rattle.sha1.specs.Sha1.{sha1, Holds}
use Rattle.part_sizes.specs.declared.part.TheConstants.{PART}
use Rattle.part_sizes.specs.declared.block.TheConstants.{BLOCK}
use Rattle.aich_tree.specs.Leaves.{leaf, leaf_count, leaves_of, ended_count, ended_leaves, open_block, room_behind}
use Rattle.aich_tree.specs.Hashing.{HoldsLeaves}
use Rattle.aich_tree.proofs.LeafLemmas.{nth_leaf, leaf_stays, leaf-last, leaves_of-parts}

-- the place of the block that is open
abbrev open_place : ℕ → ℕ
open_place n = n / PART * PART + n % PART / BLOCK * BLOCK

-- the leaves that have ended stay
stays : (m x : List ℕ) → map (nth_leaf (m ++ x)) (range_with_len 0 (ended_count (length m))) ≡ ended_leaves m
unfolding ended_leaves
stays m x =
    let c = ended_count (length m) in
    ext_get_or [] (map (nth_leaf (m ++ x)) (range_with_len 0 c)) (map (nth_leaf m) (range_with_len 0 c))
    (length-map-range_with_len (nth_leaf (m ++ x)) 0 c ∙ sym (length-map-range_with_len (nth_leaf m) 0 c))
    (λ j below.
    let within : j < c = omega (arith, below, length-map-range_with_len (nth_leaf (m ++ x)) 0 c) in
    get_or-map-range_with_len (nth_leaf (m ++ x)) 0 c j j [] within (omega arith)
    ∙ leaf_stays m x j within
    ∙ sym (get_or-map-range_with_len (nth_leaf m) 0 c j j [] within (omega arith)))

-- a piece that ends no block
pub ended-short : (m x : List ℕ) → length x < room_behind (length m) → ended_leaves (m ++ x) ≡ ended_leaves m
unfolding ended_leaves
ended-short m x short =
    let count : ended_count (length (m ++ x)) ≡ ended_count (length m) = omega (arith, short, length-append m x) in
    ap (λ (n : ℕ). map (nth_leaf (m ++ x)) (range_with_len 0 n)) count ∙ stays m x

pub open-short : (m x : List ℕ) → length x < room_behind (length m) → open_block (m ++ x) ≡ open_block m ++ x
unfolding open_block
open-short m x short =
    let place : open_place (length (m ++ x)) ≡ open_place (length m) = omega (arith, short, length-append m x) in
    let before : open_place (length m) ≤ length m = omega arith in
    ap (λ (n : ℕ). drop n (m ++ x)) place ∙ drop-append-le (open_place (length m)) m x before

-- a piece that ends a block
pub ended-full : (m x : List ℕ) → length x ≡ room_behind (length m) → ended_leaves (m ++ x) ≡ ended_leaves m ++ sha1 (open_block m ++ x) ∷ []
unfolding ended_leaves open_block
ended-full m x full =
    let n = length m in
    let c = ended_count n in
    let total = length-append m x in
    let count : ended_count (length (m ++ x)) ≡ c + 1 = omega (arith, full, total) in
    let part_of : c / 53 ≡ n / PART = omega arith in
    let block_of : c % 53 ≡ n % PART / BLOCK = omega arith in
    let in_part : length (m ++ x) ≤ (n / PART + 1) * PART = omega (arith, full, total) in
    let in_block : length (m ++ x) ≤ n / PART * PART + (n % PART / BLOCK + 1) * BLOCK = omega (arith, full, total) in
    let before : open_place n ≤ n = omega arith in
    let last : nth_leaf (m ++ x) c ≡ sha1 (drop (open_place n) m ++ x) =
    ap (λ (i : ℕ). leaf (m ++ x) i (c % 53)) part_of
    ∙ ap (λ (k : ℕ). leaf (m ++ x) (n / PART) k) block_of
    ∙ leaf-last (m ++ x) (n / PART) (n % PART / BLOCK) in_part in_block
    ∙ ap sha1 (drop-append-le (open_place n) m x before) in
    ap (λ (k : ℕ). map (nth_leaf (m ++ x)) (range_with_len 0 k)) count
    ∙ map-range_with_len_more (nth_leaf (m ++ x)) 0 c c (omega arith)
    ∙ ap (λ (front : List (List ℕ)). front ++ nth_leaf (m ++ x) c ∷ []) (stays m x)
    ∙ ap (λ (hash : List ℕ). map (nth_leaf m) (range_with_len 0 c) ++ hash ∷ []) last

pub open-full : (m x : List ℕ) → length x ≡ room_behind (length m) → open_block (m ++ x) ≡ []
unfolding open_block
open-full m x full =
    let total = length-append m x in
    drop_all (open_place (length (m ++ x))) (m ++ x) (omega (arith, full, total))

pub ended-count_next : (n room : ℕ) → room ≡ room_behind n → ended_count (n + room) ≡ ended_count n + 1
ended-count_next n room full = omega (arith, full)

pub ended-count_grows : (n more : ℕ) → ended_count n ≤ ended_count (n + more)
ended-count_grows n more = omega arith

pub length-ended_leaves : (m : List ℕ) → length (ended_leaves m) ≡ ended_count (length m)
unfolding ended_leaves
length-ended_leaves m = length-map-range_with_len (nth_leaf m) 0 (ended_count (length m))

-- at the end no block is open, or the last leaf is missing
pub leaves_of-ended : (m : List ℕ) → length m % PART % BLOCK ≡ 0 → ended_leaves m ≡ leaves_of m
unfolding ended_leaves leaves_of
leaves_of-ended m whole =
    let count : ended_count (length m) ≡ leaf_count (length m) = omega (arith, whole) in
    ap (λ (k : ℕ). map (nth_leaf m) (range_with_len 0 k)) count

pub leaves_of-open : (m : List ℕ) → 0 < length m % PART % BLOCK → ended_leaves m ++ sha1 (open_block m) ∷ [] ≡ leaves_of m
unfolding ended_leaves open_block leaves_of
leaves_of-open m some =
    let n = length m in
    let c = ended_count n in
    let count : leaf_count n ≡ c + 1 = omega (arith, some) in
    let part_of : c / 53 ≡ n / PART = omega arith in
    let block_of : c % 53 ≡ n % PART / BLOCK = omega arith in
    let last : nth_leaf m c ≡ sha1 (drop (open_place n) m) =
    ap (λ (i : ℕ). leaf m i (c % 53)) part_of
    ∙ ap (λ (k : ℕ). leaf m (n / PART) k) block_of
    ∙ leaf-last m (n / PART) (n % PART / BLOCK) (omega arith) (omega arith) in
    ap (λ (hash : List ℕ). map (nth_leaf m) (range_with_len 0 c) ++ hash ∷ []) (sym last)
    ∙ sym (map-range_with_len_more (nth_leaf m) 0 c c (omega arith))
    ∙ ap (λ (k : ℕ). map (nth_leaf m) (range_with_len 0 k)) (sym count)

-- what a hasher holds after a piece
pub HoldsLeaves-next : (leaves : List (List ℕ)) (block fresh : Sha1) (hash m x : List ℕ) → HoldsLeaves leaves block m → length x ≡ room_behind (length m)
    → ((b : List ℕ) → Holds block b → hash ≡ sha1 (b ++ x)) → Holds fresh [] → HoldsLeaves (leaves ++ hash ∷ []) fresh (m ++ x)
HoldsLeaves-next leaves block fresh hash m x holds full digest empty =
    record {
      ended =
          ap (λ (front : List (List ℕ)). front ++ hash ∷ []) holds.ended
          ∙ ap (λ (last : List ℕ). ended_leaves m ++ last ∷ []) (digest (open_block m) holds.opened)
          ∙ sym (ended-full m x full);
      opened = rw (open-full m x full) empty;
    }

pub HoldsLeaves-more : (leaves : List (List ℕ)) (block later : Sha1) (m x : List ℕ) → HoldsLeaves leaves block m → length x < room_behind (length m)
    → ((b : List ℕ) → Holds block b → Holds later (b ++ x)) → HoldsLeaves leaves later (m ++ x)
HoldsLeaves-more leaves block later m x holds short more =
    record {
      ended = holds.ended ∙ sym (ended-short m x short);
      opened = rw (open-short m x short) (more (open_block m) holds.opened);
    }

-- at the start of a block no block is open
pub open_none : (m : List ℕ) → length m % PART % BLOCK ≡ 0 → open_block m ≡ []
unfolding open_block
open_none m begins = drop_all (open_place (length m)) m (omega (arith, begins))

-- a whole block, where none is open
pub ended_whole : (m x : List ℕ) → length m % PART % BLOCK ≡ 0 → length x ≡ BLOCK → length m % PART + BLOCK ≤ PART
    → ended_leaves (m ++ x) ≡ ended_leaves m ++ sha1 x ∷ []
ended_whole m x begins long fits =
    let full : length x ≡ room_behind (length m) = omega (arith, begins, long, fits) in
    ended-full m x full ∙ ap (λ (b : List ℕ). ended_leaves m ++ sha1 (b ++ x) ∷ []) (open_none m begins)

-- the place behind such a block, within the part
place_next : (m x : List ℕ) (k : ℕ) → length m % PART % BLOCK ≡ 0 → length x ≡ BLOCK → length m % PART + (k + 1) * BLOCK ≤ PART → 0 < k
    → (length (m ++ x) % PART % BLOCK ≡ 0) × (length (m ++ x) % PART + k * BLOCK ≤ PART)
place_next m x k begins long fits some =
    let total = length-append m x in
    let place : length (m ++ x) % PART ≡ length m % PART + BLOCK = omega (arith, total, long, fits, some) in
    (omega (arith, place, begins), omega (arith, place, fits))

-- four of them
pub HoldsLeaves-four : (leaves : List (List ℕ)) (block : Sha1) (m a b c d : List ℕ) → HoldsLeaves leaves block m → length m % PART % BLOCK ≡ 0
    → length m % PART + 4 * BLOCK ≤ PART → length a ≡ BLOCK → length b ≡ BLOCK → length c ≡ BLOCK → length d ≡ BLOCK
    → HoldsLeaves ((((leaves ++ sha1 a ∷ []) ++ sha1 b ∷ []) ++ sha1 c ∷ []) ++ sha1 d ∷ []) block ((((m ++ a) ++ b) ++ c) ++ d)
HoldsLeaves-four leaves block m a b c d holds begins fits la lb lc ld =
    let p1 = place_next m a 3 begins la fits (omega arith) in
    let p2 = place_next (m ++ a) b 2 p1.0 lb p1.1 (omega arith) in
    let p3 = place_next ((m ++ a) ++ b) c 1 p2.0 lc p2.1 (omega arith) in
    let full : length d ≡ room_behind (length (((m ++ a) ++ b) ++ c)) = omega (arith, p3.0, p3.1, ld) in
    let none : open_block m ≡ [] = open_none m begins in
    record {
      ended =
          sym (ended_whole (((m ++ a) ++ b) ++ c) d p3.0 ld (omega (arith, p3.1))
          ∙ ap (λ (l : List (List ℕ)). l ++ sha1 d ∷ []) (ended_whole ((m ++ a) ++ b) c p2.0 lc (omega (arith, p2.1))
          ∙ ap (λ (l : List (List ℕ)). l ++ sha1 c ∷ []) (ended_whole (m ++ a) b p1.0 lb (omega (arith, p1.1))
          ∙ ap (λ (l : List (List ℕ)). l ++ sha1 b ∷ []) (ended_whole m a begins la (omega (arith, fits))
          ∙ ap (λ (l : List (List ℕ)). l ++ sha1 a ∷ []) (sym holds.ended)))));
      opened = rw (open-full (((m ++ a) ++ b) ++ c) d full) (rw none at holds.opened);
    }

-- bytes that are split into four
pub four_parts : (m all a o b p c d : List ℕ) → a ++ o ≡ all → b ++ p ≡ o → c ++ d ≡ p → (((m ++ a) ++ b) ++ c) ++ d ≡ m ++ all
four_parts m all a o b p c d first second third =
    append_assoc ((m ++ a) ++ b) c d
    ∙ ap (λ (e : List ℕ). ((m ++ a) ++ b) ++ e) third
    ∙ append_assoc (m ++ a) b p
    ∙ ap (λ (e : List ℕ). (m ++ a) ++ e) second
    ∙ append_assoc m a o
    ∙ ap (λ (e : List ℕ). m ++ e) first

-- four whole blocks of a part are four leaves
pub ended-count_four : (n : ℕ) → n % PART % BLOCK ≡ 0 → n % PART + 4 * BLOCK ≤ PART → ended_count (n + 4 * BLOCK) ≡ ended_count n + 4
ended-count_four n begins fits = omega (arith, begins, fits)

-- a block whose hash is found elsewhere, where no block is open
pub HoldsLeaves-hashed : (leaves : List (List ℕ)) (block : Sha1) (hash m x : List ℕ) → HoldsLeaves leaves block m → length m % PART % BLOCK ≡ 0
    → length x ≡ room_behind (length m) → hash ≡ sha1 x → HoldsLeaves (leaves ++ hash ∷ []) block (m ++ x)
HoldsLeaves-hashed leaves block hash m x holds begins full found =
    let none : open_block m ≡ [] = open_none m begins in
    record {
      ended =
          ap (λ (front : List (List ℕ)). front ++ hash ∷ []) holds.ended
          ∙ ap (λ (last : List ℕ). ended_leaves m ++ last ∷ []) (found ∙ ap (λ (b : List ℕ). sha1 (b ++ x)) (sym none))
          ∙ sym (ended-full m x full);
      opened = rw (open-full m x full) (rw none at holds.opened);
    }

-- ---- bytes behind whole parts

-- the bytes in front of the block that is open
abbrev closed : List ℕ → List ℕ
closed y = take (open_place (length y)) y

closed-open : (y : List ℕ) → closed y ++ open_block y ≡ y
unfolding open_block
closed-open y = take-append-drop (open_place (length y)) y

length-closed : (y : List ℕ) → length (closed y) ≡ open_place (length y)
length-closed y = length-take-le (open_place (length y)) y (omega arith)

length-open_block : (y : List ℕ) → length (open_block y) ≡ length y - open_place (length y)
unfolding open_block
length-open_block y = length-drop (open_place (length y)) y

-- all leaves that have ended, of bytes behind whole parts
ended-behind : (m y : List ℕ) (j : ℕ) → length m ≡ j * PART → ended_leaves (m ++ y) ≡ leaves_of m ++ leaves_of (closed y)
ended-behind m y j whole =
    let front = length-closed y in
    let rest = length-open_block y in
    let total = length-append m (closed y) in
    let short : length (open_block y) < room_behind (length (m ++ closed y)) = omega (arith, front, rest, total, whole) in
    let ends : length (m ++ closed y) % PART % BLOCK ≡ 0 = omega (arith, front, total, whole) in
    ap ended_leaves (ap (λ (bytes : List ℕ). m ++ bytes) (sym (closed-open y)) ∙ sym (append_assoc m (closed y) (open_block y)))
    ∙ ended-short (m ++ closed y) (open_block y) short
    ∙ leaves_of-ended (m ++ closed y) ends
    ∙ leaves_of-parts m (closed y) j whole

ended-closed : (y : List ℕ) → ended_leaves y ≡ leaves_of (closed y)
ended-closed y =
    let front = length-closed y in
    let rest = length-open_block y in
    let short : length (open_block y) < room_behind (length (closed y)) = omega (arith, front, rest) in
    let ends : length (closed y) % PART % BLOCK ≡ 0 = omega (arith, front) in
    ap ended_leaves (sym (closed-open y)) ∙ ended-short (closed y) (open_block y) short ∙ leaves_of-ended (closed y) ends

open-behind : (m y : List ℕ) (j : ℕ) → length m ≡ j * PART → open_block (m ++ y) ≡ open_block y
unfolding open_block
open-behind m y j whole =
    let place : open_place (length (m ++ y)) ≡ j * PART + open_place (length y) = omega (arith, whole, length-append m y) in
    ap (λ (n : ℕ). drop n (m ++ y)) place
    ∙ sym (drop-drop (open_place (length y)) (j * PART) (m ++ y))
    ∙ ap (λ (rest : List ℕ). drop (open_place (length y)) rest) (drop_at m y (j * PART) whole)

-- what a hasher holds after the bytes of another, behind whole parts
pub HoldsLeaves-behind : (leaves more : List (List ℕ)) (before block : Sha1) (m y : List ℕ) → HoldsLeaves leaves before m → HoldsLeaves more block y
    → length m % PART ≡ 0 → HoldsLeaves (leaves ++ more) block (m ++ y)
HoldsLeaves-behind leaves more before block m y held holds begins =
    let j = length m / PART in
    let whole : length m ≡ j * PART = omega (arith, begins) in
    let ends : length m % PART % BLOCK ≡ 0 = omega (arith, begins) in
    record {
      ended =
          ap (λ (front : List (List ℕ)). front ++ more) (held.ended ∙ leaves_of-ended m ends)
          ∙ ap (λ (behind : List (List ℕ)). leaves_of m ++ behind) (holds.ended ∙ ended-closed y)
          ∙ sym (ended-behind m y j whole);
      opened = rw (open-behind m y j whole) holds.opened;
    }

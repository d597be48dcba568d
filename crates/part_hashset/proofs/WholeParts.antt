-- Whole parts of bytes that are put together.
use Rattle.std.proofs.Common.{arith, ◌≡◌, sym, ◌∙◌, ap, ℕ, ◌+◌, ◌-◌, ◌*◌, ◌/◌, ◌%◌, ◌<◌, ◌≤◌, List, [], ◌∷◌, ◌++◌, length, take, drop, map, get_or, length-append, length-drop, inl, inr, Bool, true, false, nat_lt, if◌then◌else◌}
use Rattle.std.proofs.lemmas.Bool.{cases_lt}
use Rattle.std.proofs.lemmas.Bool.Decides.{nat_tests}
use Rattle.std.proofs.lemmas.List.{append-nil, append_assoc, drop-append-le, take-append-le, drop_at, drop-drop, take_all, take-append-drop, ext_get_or, get_or_append_left, get_or-append_right, length-take-le, nil_from_length}
use Rattle.std.proofs.lemmas.List.FromFn.{get_or-map-range_with_len, length-map-range_with_len, map-range_with_len_more}
use Rattle.std.specs.List.{range_with_len}
use Rattle.md4_hash.specs.Md4.{md4}
use Rattle.part_sizes.proofs.Parts.{part-append_left, part-append_right}
use Rattle.part_sizes.specs.Part.{part, hash_count}
use Rattle.part_sizes.specs.declared.part.TheConstants.{PART}
use Rattle.part_hashset.specs.HashSet.{set_of, ed2k, joined}
use Rattle.part_hashset.specs.WholeParts.{whole_hashes, open_part, HoldsParts}

length-whole_hashes : (m : List ℕ) → length (whole_hashes m) ≡ length m / PART
unfolding whole_hashes
length-whole_hashes m = length-map-range_with_len (λ i. md4 (part m i)) 0 (length m / PART)

get_or-whole_hashes : (m : List ℕ) (i : ℕ) → i < length m / PART → get_or (whole_hashes m) i [] ≡ md4 (part m i)
unfolding whole_hashes
get_or-whole_hashes m i below = get_or-map-range_with_len (λ i. md4 (part m i)) 0 (length m / PART) i i [] below (omega arith)

whole_hashes-append : (m y : List ℕ) (j : ℕ) → length m ≡ j * PART → whole_hashes (m ++ y) ≡ whole_hashes m ++ whole_hashes y
whole_hashes-append m y j whole =
    let here = length-whole_hashes m in
    let there = length-whole_hashes y in
    let total = length-append m y in
    let count : length (m ++ y) / PART ≡ j + length y / PART = omega (arith, total, whole) in
    let all : length (whole_hashes (m ++ y)) ≡ j + length y / PART = length-whole_hashes (m ++ y) ∙ count in
    let mine : length (whole_hashes m) ≡ j = omega (arith, here, whole) in
    ext_get_or [] (whole_hashes (m ++ y)) (whole_hashes m ++ whole_hashes y)
    (omega (arith, all, mine, there, length-append (whole_hashes m) (whole_hashes y)))
    (λ i below.
    get_or-whole_hashes (m ++ y) i (omega (arith, below, all, count))
    ∙ elim (cases_lt i j) [
      | inl left ↦
          ap md4 (part-append_left m y i (omega (arith, whole, left)))
          ∙ sym (get_or-whole_hashes m i (omega (arith, left, here, mine)))
          ∙ sym (get_or_append_left (whole_hashes m) (whole_hashes y) [] i (omega (arith, left, mine)))
      | inr right ↦
          let place : i ≡ j + (i - j) = omega arith in
          ap (λ (k : ℕ). md4 (part (m ++ y) k)) place
          ∙ ap md4 (part-append_right m y j (i - j) whole)
          ∙ sym (get_or-whole_hashes y (i - j) (omega (arith, right, below, all)))
          ∙ sym (get_or-append_right (whole_hashes m) (whole_hashes y) j i [] mine right)
    ])

open_part-append : (m y : List ℕ) (j : ℕ) → length m ≡ j * PART → open_part (m ++ y) ≡ open_part y
unfolding open_part
open_part-append m y j whole =
    let place : length (m ++ y) / PART * PART ≡ j * PART + length y / PART * PART = omega (arith, whole, length-append m y) in
    ap (λ (n : ℕ). drop n (m ++ y)) place
    ∙ sym (drop-drop (length y / PART * PART) (j * PART) (m ++ y))
    ∙ ap (λ (rest : List ℕ). drop (length y / PART * PART) rest) (drop_at m y (j * PART) whole)

whole_hashes-short : (y : List ℕ) → length y < PART → whole_hashes y ≡ []
unfolding whole_hashes
whole_hashes-short y short =
    let none : length y / PART ≡ 0 = omega (arith, short) in
    ap (λ (n : ℕ). map (λ i. md4 (part y i)) (range_with_len 0 n)) none

open_part-short : (y : List ℕ) → length y < PART → open_part y ≡ y
unfolding open_part
open_part-short y short =
    let none : length y / PART * PART ≡ 0 = omega (arith, short) in
    ap (λ (n : ℕ). drop n y) none

whole_hashes-one : (m : List ℕ) → length m ≡ PART → whole_hashes m ≡ md4 m ∷ []
unfolding whole_hashes
whole_hashes-one m whole =
    let one : length m / PART ≡ 1 = omega (arith, whole) in
    ap (λ (n : ℕ). map (λ i. md4 (part m i)) (range_with_len 0 n)) one
    ∙ ap (λ (bytes : List ℕ). md4 bytes ∷ []) (take_all PART m (omega (arith, whole)))

-- one part ends
pub whole_hashes-next : (m y : List ℕ) → length m ≡ PART → whole_hashes (m ++ y) ≡ md4 m ∷ [] ++ whole_hashes y
whole_hashes-next m y whole =
    whole_hashes-append m y 1 (omega (arith, whole)) ∙ ap (λ (first : List (List ℕ)). first ++ whole_hashes y) (whole_hashes-one m whole)

pub open_part-next : (m y : List ℕ) → length m ≡ PART → open_part (m ++ y) ≡ open_part y
open_part-next m y whole = open_part-append m y 1 (omega (arith, whole))

pub whole_hashes-none : (y : List ℕ) → length y < PART → whole_hashes y ≡ []
whole_hashes-none = whole_hashes-short

pub open_part-all : (y : List ℕ) → length y < PART → open_part y ≡ y
open_part-all = open_part-short

-- bytes are their whole parts and the open one
abbrev front : List ℕ → List ℕ
front m = take (length m / PART * PART) m

front-open_part : (m : List ℕ) → front m ++ open_part m ≡ m
unfolding open_part
front-open_part m = take-append-drop (length m / PART * PART) m

length-front : (m : List ℕ) → length (front m) ≡ length m / PART * PART
length-front m = length-take-le (length m / PART * PART) m (omega arith)

pub length-open_part : (m : List ℕ) → length (open_part m) ≡ length m % PART
unfolding open_part
length-open_part m = length-drop (length m / PART * PART) m ∙ omega arith

regroup : (m x : List ℕ) → m ++ x ≡ front m ++ (open_part m ++ x)
regroup m x = ap (λ (bytes : List ℕ). bytes ++ x) (sym (front-open_part m)) ∙ append_assoc (front m) (open_part m) x

pub whole_hashes-fed : (m x : List ℕ) → whole_hashes (m ++ x) ≡ whole_hashes m ++ whole_hashes (open_part m ++ x)
whole_hashes-fed m x =
    let j = length m / PART in
    let opened : length (open_part m) < PART = omega (arith, length-open_part m) in
    let same : whole_hashes m ≡ whole_hashes (front m) =
    ap whole_hashes (sym (front-open_part m))
    ∙ whole_hashes-append (front m) (open_part m) j (length-front m)
    ∙ ap (λ (behind : List (List ℕ)). whole_hashes (front m) ++ behind) (whole_hashes-short (open_part m) opened)
    ∙ append-nil (whole_hashes (front m)) in
    ap whole_hashes (regroup m x)
    ∙ whole_hashes-append (front m) (open_part m ++ x) j (length-front m)
    ∙ ap (λ (before : List (List ℕ)). before ++ whole_hashes (open_part m ++ x)) (sym same)

pub open_part-fed : (m x : List ℕ) → open_part (m ++ x) ≡ open_part (open_part m ++ x)
open_part-fed m x = ap open_part (regroup m x) ∙ open_part-append (front m) (open_part m ++ x) (length m / PART) (length-front m)

-- what holds of the fields after a piece
pub HoldsParts-append : (members more : List (List ℕ)) (open_bytes behind : List ℕ) (filled after : ℕ) (m x : List ℕ)
    → HoldsParts members open_bytes filled m
    → more ≡ members ++ whole_hashes (open_bytes ++ x)
    → behind ≡ open_part (open_bytes ++ x)
    → after ≡ (filled + length x) % PART
    → HoldsParts more behind after (m ++ x)
HoldsParts-append members more open_bytes behind filled after m x holds longer left count =
    record {
      whole =
          longer
          ∙ ap (λ (before : List (List ℕ)). before ++ whole_hashes (open_bytes ++ x)) holds.whole
          ∙ ap (λ (bytes : List ℕ). whole_hashes m ++ whole_hashes (bytes ++ x)) holds.open_part_of
          ∙ sym (whole_hashes-fed m x);
      open_part_of = left ∙ ap (λ (bytes : List ℕ). open_part (bytes ++ x)) holds.open_part_of ∙ sym (open_part-fed m x);
      filled_to = omega (arith, count, holds.filled_to, length-append m x);
    }

-- behind whole parts no part is open
no-open : (members : List (List ℕ)) (open_bytes : List ℕ) (filled : ℕ) (m : List ℕ) → HoldsParts members open_bytes filled m
    → length m % PART ≡ 0 → open_bytes ≡ []
no-open members open_bytes filled m holds begins =
    nil_from_length open_bytes (ap length holds.open_part_of ∙ length-open_part m ∙ begins)

-- what holds behind a whole part that was hashed on its own, and behind the bytes of one that is open
pub HoldsParts-whole : (members : List (List ℕ)) (open_bytes : List ℕ) (filled : ℕ) (m y : List ℕ) → HoldsParts members open_bytes filled m
    → length m % PART ≡ 0 → length y ≡ PART → HoldsParts (members ++ md4 y ∷ []) open_bytes filled (m ++ y)
HoldsParts-whole members open_bytes filled m y holds begins full =
    let none = no-open members open_bytes filled m holds begins in
    HoldsParts-append members (members ++ md4 y ∷ []) open_bytes open_bytes filled filled m y holds
    (ap (λ (last : List (List ℕ)). members ++ last) (sym (whole_hashes-one y full) ∙ ap (λ (b : List ℕ). whole_hashes (b ++ y)) (sym none)))
    (none ∙ sym (nil_from_length (open_part y) (length-open_part y ∙ omega (arith, full))) ∙ ap (λ (b : List ℕ). open_part (b ++ y)) (sym none))
    (omega (arith, holds.filled_to, begins, full))

pub HoldsParts-open : (members : List (List ℕ)) (open_bytes : List ℕ) (filled : ℕ) (m y : List ℕ) → HoldsParts members open_bytes filled m
    → length m % PART ≡ 0 → length y < PART → HoldsParts members y (length y) (m ++ y)
HoldsParts-open members open_bytes filled m y holds begins short =
    let none = no-open members open_bytes filled m holds begins in
    HoldsParts-append members members open_bytes y filled (length y) m y holds
    (sym (append-nil members)
    ∙ ap (λ (last : List (List ℕ)). members ++ last) (sym (whole_hashes-short y short) ∙ ap (λ (b : List ℕ). whole_hashes (b ++ y)) (sym none)))
    (sym (open_part-short y short) ∙ ap (λ (b : List ℕ). open_part (b ++ y)) (sym none))
    (omega (arith, holds.filled_to, begins, short))

-- the members and the open part at the end
pub set_of-whole : (m : List ℕ) → PART ≤ length m → set_of m ≡ whole_hashes m ++ md4 (open_part m) ∷ []
unfolding whole_hashes open_part
set_of-whole m large =
    let n = length m / PART in
    let count : hash_count (length m) ≡ n + 1 = grind (arith, nat_tests) in
    let rest : length (drop (n * PART) m) ≤ PART = omega (arith, length-drop (n * PART) m) in
    ap (λ (k : ℕ). map (λ i. md4 (part m i)) (range_with_len 0 k)) count
    ∙ map-range_with_len_more (λ i. md4 (part m i)) 0 n n (omega arith)
    ∙ ap (λ (last : List ℕ). whole_hashes m ++ md4 last ∷ []) (take_all PART (drop (n * PART) m) rest)

pub set_of-small : (m : List ℕ) → length m < PART → set_of m ≡ []
set_of-small m small =
    let count : hash_count (length m) ≡ 0 = grind (arith, nat_tests) in
    ap (λ (k : ℕ). map (λ i. md4 (part m i)) (range_with_len 0 k)) count

pub whole_hashes-some : (m : List ℕ) → length (whole_hashes m) ≡ length m / PART
whole_hashes-some = length-whole_hashes

joined-rest : (p rest : List ℕ) (room : ℕ) → (p ++ take room rest) ++ drop room rest ≡ p ++ rest
joined-rest p rest room = append_assoc p (take room rest) (drop room rest) ∙ ap (λ (end : List ℕ). p ++ end) (take-append-drop room rest)

-- one turn of a hasher that ends a part: its last bytes are the first of what is left
pub step-whole : (members : List (List ℕ)) (p rest : List ℕ) (room : ℕ) → room + length p ≡ PART → room ≤ length rest
    → (members ++ md4 (p ++ take room rest) ∷ []) ++ whole_hashes (drop room rest) ≡ members ++ whole_hashes (p ++ rest)
step-whole members p rest room full fits =
    let front_len = length-take-le room rest fits in
    let whole : length (p ++ take room rest) ≡ PART = omega (arith, full, front_len, length-append p (take room rest)) in
    append_assoc members (md4 (p ++ take room rest) ∷ []) (whole_hashes (drop room rest))
    ∙ ap (λ (behind : List (List ℕ)). members ++ behind)
    (sym (whole_hashes-next (p ++ take room rest) (drop room rest) whole) ∙ ap whole_hashes (joined-rest p rest room))

pub step-behind : (p rest : List ℕ) (room : ℕ) → room + length p ≡ PART → room ≤ length rest
    → open_part (drop room rest) ≡ open_part (p ++ rest)
step-behind p rest room full fits =
    let front_len = length-take-le room rest fits in
    let whole : length (p ++ take room rest) ≡ PART = omega (arith, full, front_len, length-append p (take room rest)) in
    sym (open_part-next (p ++ take room rest) (drop room rest) whole) ∙ ap open_part (joined-rest p rest room)

-- what a hasher of few bytes gives
pub small-hash : (members : List (List ℕ)) (p : List ℕ) (filled : ℕ) (m : List ℕ) → HoldsParts members p filled m → length members ≡ 0 → md4 p ≡ ed2k m
small-hash members p filled m holds none =
    let count : length m / PART ≡ 0 = sym (length-whole_hashes m) ∙ sym (ap length holds.whole) ∙ none in
    let below : length m < PART = omega (arith, count) in
    let test : nat_lt (length m) PART ≡ true = grind (arith, nat_tests) in
    ap md4 (holds.open_part_of ∙ open_part-short m below)
    ∙ sym (ap (λ (b : Bool). if b then md4 m else md4 (joined (set_of m))) test)

pub small-set : (members : List (List ℕ)) (p : List ℕ) (filled : ℕ) (m : List ℕ) → HoldsParts members p filled m → length members ≡ 0 → members ≡ set_of m
small-set members p filled m holds none =
    let count : length m / PART ≡ 0 = sym (length-whole_hashes m) ∙ sym (ap length holds.whole) ∙ none in
    nil_from_length members none ∙ sym (set_of-small m (omega (arith, count)))

-- what a hasher of at least one part gives
pub large-set : (members : List (List ℕ)) (p : List ℕ) (filled : ℕ) (m : List ℕ) → HoldsParts members p filled m → 0 < length members → members ++ md4 p ∷ [] ≡ set_of m
large-set members p filled m holds some =
    let count : length m / PART ≡ length members = sym (length-whole_hashes m) ∙ sym (ap length holds.whole) in
    ap (λ (front : List (List ℕ)). front ++ md4 p ∷ []) holds.whole
    ∙ ap (λ (last : List ℕ). whole_hashes m ++ md4 last ∷ []) holds.open_part_of
    ∙ sym (set_of-whole m (omega (arith, count, some)))

pub large-hash : (members : List (List ℕ)) (p : List ℕ) (filled : ℕ) (m : List ℕ) → HoldsParts members p filled m → 0 < length members → md4 (joined (members ++ md4 p ∷ [])) ≡ ed2k m
large-hash members p filled m holds some =
    let count : length m / PART ≡ length members = sym (length-whole_hashes m) ∙ sym (ap length holds.whole) in
    let test : nat_lt (length m) PART ≡ false = grind (arith, nat_tests) in
    ap (λ (set : List (List ℕ)). md4 (joined set)) (large-set members p filled m holds some)
    ∙ sym (ap (λ (b : Bool). if b then md4 m else md4 (joined (set_of m))) test)

-- Pairs that are spelled are read again, and what is read is spelled so.
use Rattle.std.proofs.Common.{arith, ◌≡◌, ◌≢◌, ℕ, zero, suc, ◌+◌, ◌*◌, ◌<◌, ◌≤◌, ◌^◌, false, nat_eq, nat_lt, ◌||◌, List, [], ◌∷◌, ◌++◌, length, get_or, take, drop, flat_map, refl, sym, ap, ◌∙◌, append_assoc, inl, inr, le-ltb, ltb-false, ne_eqb, length-append, length-drop, length-take, length-take-le, take_at, drop_at, drop-drop, take-append-drop, take-add}
use Rattle.std.specs.List.{AllByRecursion}
use Rattle.std.proofs.lemmas.Bool.{cases_lt, or_from, or_parts, eqb-false}
use Rattle.std.proofs.lemmas.List.{get_or-drop, get_or-take, get_or_past}
use Rattle.std.proofs.lemmas.Nat.{le_bytes_2}
use Rattle.byteorder.specs.Endian.{little_bytes, little_number}
use Rattle.byteorder.specs.Numbers.{little_number-reads_back, little_from-take, little_from-lt, length-bytes_low_first}
use Rattle.aich_packet.specs.declared.layout.Pair.{Pair}
use Rattle.aich_packet.specs.Layout.{spell_pair, spell, count_of, is_cut, pair_at, pairs_from, pairs_of}
use Rattle.aich_packet.specs.Packet.{IsPair}

abbrev pub IsBytes : List ℕ → Type 0
IsBytes bytes = (i : ℕ) → get_or bytes i 0 < 256

drop-bytes : (n : ℕ) (bytes : List ℕ) → IsBytes bytes → IsBytes (drop n bytes)
drop-bytes n bytes fits i = rw get_or-drop (fits (n + i))

take-bytes : (n : ℕ) (bytes : List ℕ) → IsBytes bytes → IsBytes (take n bytes)
take-bytes n bytes fits i =
    elim (cases_lt i n) [
      | inl below ↦ rw (get_or-take n bytes i 0 below) (fits i)
      | inr behind ↦ rw (get_or_past (take n bytes) i 0 (omega (arith, length-take n bytes))) (omega arith)
    ]

abbrev pair_of : ℕ → List ℕ → Pair
pair_of ident hash = record { ident = ident; hash = hash }

-- ---- what is spelled is read again

pair-again : (pair : Pair) (rest : List ℕ) → IsPair pair → pair_at (spell_pair pair ++ rest) ≡ pair
pair-again pair rest is =
    let numbered : little_number 2 (spell_pair pair ++ rest) ≡ pair.ident =
    ap (little_number 2) (append_assoc (little_bytes 2 pair.ident) pair.hash rest)
    ∙ little_number-reads_back 2 pair.ident (pair.hash ++ rest) is.ident in
    let behind : drop 2 (spell_pair pair ++ rest) ≡ pair.hash ++ rest =
    ap (drop 2) (append_assoc (little_bytes 2 pair.ident) pair.hash rest)
    ∙ drop_at (little_bytes 2 pair.ident) (pair.hash ++ rest) 2 (length-bytes_low_first 0 2 pair.ident) in
    let hashed : take 20 (drop 2 (spell_pair pair ++ rest)) ≡ pair.hash =
    ap (take 20) behind ∙ take_at pair.hash rest 20 is.hash in
    ap (λ (n : ℕ). pair_of n (take 20 (drop 2 (spell_pair pair ++ rest)))) numbered
    ∙ ap (λ (hash : List ℕ). pair_of pair.ident hash) hashed

pub length-spell_pair : (pair : Pair) → IsPair pair → length (spell_pair pair) ≡ 22
length-spell_pair pair is =
    omega (arith, length-append (little_bytes 2 pair.ident) pair.hash, length-bytes_low_first 0 2 pair.ident, is.hash)

pub length-pairs : (pairs : List Pair) → AllByRecursion IsPair pairs → length (flat_map spell_pair pairs) ≡ length pairs * 22
length-pairs [] each = refl
length-pairs (pair ∷ pairs) each =
    omega (arith, length-append (spell_pair pair) (flat_map spell_pair pairs), length-spell_pair pair each.0, length-pairs pairs each.1)

pairs-again : (pairs : List Pair) (rest : List ℕ) → AllByRecursion IsPair pairs → pairs_from (length pairs) (flat_map spell_pair pairs ++ rest) ≡ pairs
unfolding pairs_from
pairs-again [] rest each = refl
pairs-again (pair ∷ pairs) rest each =
    let further = flat_map spell_pair pairs ++ rest in
    let split = append_assoc (spell_pair pair) (flat_map spell_pair pairs) rest in
    ap (λ (bytes : List ℕ). pair_at bytes ∷ pairs_from (length pairs) (drop 22 bytes)) split
    ∙ ap (λ (first : Pair). first ∷ pairs_from (length pairs) (drop 22 (spell_pair pair ++ further))) (pair-again pair further each.0)
    ∙ ap (λ (bytes : List ℕ). pair ∷ pairs_from (length pairs) bytes) (drop_at (spell_pair pair) further 22 (length-spell_pair pair each.0))
    ∙ ap (λ (others : List Pair). pair ∷ others) (pairs-again pairs rest each.1)

pub count-again : (pairs : List Pair) (behind : List ℕ) → length pairs < 2 ^ 16 → count_of (spell pairs ++ behind) ≡ length pairs
count-again pairs behind few =
    ap (little_number 2) (append_assoc (little_bytes 2 (length pairs)) (flat_map spell_pair pairs) behind)
    ∙ little_number-reads_back 2 (length pairs) (flat_map spell_pair pairs ++ behind) few

pub read-again : (pairs : List Pair) (behind : List ℕ) → length pairs < 2 ^ 16 → AllByRecursion IsPair pairs → pairs_of (spell pairs ++ behind) ≡ pairs
read-again pairs behind few each =
    let rest : drop 2 (spell pairs ++ behind) ≡ flat_map spell_pair pairs ++ behind =
    ap (drop 2) (append_assoc (little_bytes 2 (length pairs)) (flat_map spell_pair pairs) behind)
    ∙ drop_at (little_bytes 2 (length pairs)) (flat_map spell_pair pairs ++ behind) 2 (length-bytes_low_first 0 2 (length pairs)) in
    ap (λ (n : ℕ). pairs_from n (drop 2 (spell pairs ++ behind))) (count-again pairs behind few)
    ∙ ap (pairs_from (length pairs)) rest
    ∙ pairs-again pairs behind each

whole : (n end : ℕ) → 2 ≤ n → end ≤ n → n ≢ end + 1 → (nat_lt n 2 || (nat_lt n end || nat_eq n (end + 1))) ≡ false
whole n end counted there other =
    or_from (nat_lt n 2) (nat_lt n end || nat_eq n (end + 1)) (le-ltb n 2 counted)
    (or_from (nat_lt n end) (nat_eq n (end + 1)) (le-ltb n end there) (ne_eqb n (end + 1) other))

pub whole-again : (pairs : List Pair) (behind : List ℕ) → length pairs < 2 ^ 16 → AllByRecursion IsPair pairs → length behind ≢ 1 → is_cut (spell pairs ++ behind) ≡ false
whole-again pairs behind few each other =
    let bytes = spell pairs ++ behind in
    let count = count-again pairs behind few in
    let all : length bytes ≡ 2 + length pairs * 22 + length behind =
    omega (arith, length-append (spell pairs) behind, length-append (little_bytes 2 (length pairs)) (flat_map spell_pair pairs), length-bytes_low_first 0 2 (length pairs), length-pairs pairs each) in
    whole (length bytes) (2 + count_of bytes * 22) (omega (arith, all)) (omega (arith, all, count))
    (λ one. other (omega (arith, one, all, count)))

-- ---- what is read is spelled so

front-spelled : (bytes : List ℕ) → 22 ≤ length bytes → IsBytes bytes → spell_pair (pair_at bytes) ≡ take 22 bytes
front-spelled bytes long fits =
    let two = take-bytes 2 bytes fits in
    let number : little_number 2 (take 2 bytes) ≡ little_number 2 bytes = little_from-take 0 2 2 bytes (omega arith) in
    let spelled : little_bytes 2 (little_number 2 bytes) ≡ take 2 bytes =
    ap (little_bytes 2) (sym number) ∙ le_bytes_2 (take 2 bytes) _ (length-take-le 2 bytes (omega arith)) two (omega arith) in
    ap (λ (front : List ℕ). front ++ take 20 (drop 2 bytes)) spelled
    ∙ sym (take-add 2 20 bytes)

pub spelled-pairs : (count : ℕ) (bytes : List ℕ) → count * 22 ≤ length bytes → IsBytes bytes → flat_map spell_pair (pairs_from count bytes) ++ drop (count * 22) bytes ≡ bytes
unfolding pairs_from
spelled-pairs zero bytes long fits = refl
spelled-pairs (suc count) bytes long fits =
    let others = flat_map spell_pair (pairs_from count (drop 22 bytes)) in
    let step : suc count * 22 ≡ 22 + count * 22 = omega arith in
    let long' : 22 ≤ length bytes = omega (arith, step) in
    let rest : count * 22 ≤ length (drop 22 bytes) = omega (arith, step, length-drop 22 bytes) in
    append_assoc (spell_pair (pair_at bytes)) others (drop (suc count * 22) bytes)
    ∙ ap (λ (front : List ℕ). front ++ (others ++ drop (suc count * 22) bytes)) (front-spelled bytes long' fits)
    ∙ ap (λ (n : ℕ). take 22 bytes ++ (others ++ drop n bytes)) step
    ∙ ap (λ (behind : List ℕ). take 22 bytes ++ (others ++ behind)) (sym (drop-drop (count * 22) 22 bytes))
    ∙ ap (λ (behind : List ℕ). take 22 bytes ++ behind) (spelled-pairs count (drop 22 bytes) rest (drop-bytes 22 bytes fits))
    ∙ take-append-drop 22 bytes

pub each-pair : (count : ℕ) (bytes : List ℕ) → count * 22 ≤ length bytes → IsBytes bytes → AllByRecursion IsPair (pairs_from count bytes)
unfolding pairs_from
each-pair zero bytes long fits = tt
each-pair (suc count) bytes long fits =
    let step : suc count * 22 ≡ 22 + count * 22 = omega arith in
    let hashed : length (take 20 (drop 2 bytes)) ≡ 20 = length-take-le 20 (drop 2 bytes) (omega (arith, step, length-drop 2 bytes)) in (
      record { ident = little_from-lt 0 2 bytes fits; hash = hashed },
      each-pair count (drop 22 bytes) (omega (arith, step, length-drop 22 bytes)) (drop-bytes 22 bytes fits),
    )

pub length-pairs_from : (count : ℕ) (bytes : List ℕ) → length (pairs_from count bytes) ≡ count
unfolding pairs_from
length-pairs_from zero bytes = refl
length-pairs_from (suc count) bytes = omega (arith, length-pairs_from count (drop 22 bytes))

-- bytes that are not cut
pub record IsWhole (bytes : List ℕ) : Type 0 where
  pub counted : 2 ≤ length bytes
  pub there : 2 + count_of bytes * 22 ≤ length bytes
  pub other : length bytes ≢ 2 + count_of bytes * 22 + 1

pub from-cut : (bytes : List ℕ) → is_cut bytes ≡ false → IsWhole bytes
from-cut bytes cut =
    let n = length bytes in
    let end = 2 + count_of bytes * 22 in
    let parts = or_parts (nat_lt n 2) (nat_lt n end || nat_eq n (end + 1)) cut in
    let parts' = or_parts (nat_lt n end) (nat_eq n (end + 1)) parts.1 in
    record {
      counted = ltb-false n 2 parts.0;
      there = ltb-false n end parts'.0;
      other = eqb-false n (end + 1) parts'.1;
    }

pub spelled-all : (bytes : List ℕ) → IsWhole bytes → IsBytes bytes → bytes ≡ spell (pairs_of bytes) ++ drop (count_of bytes * 22) (drop 2 bytes)
spelled-all bytes is fits =
    let count = count_of bytes in
    let pairs = pairs_of bytes in
    let two = take-bytes 2 bytes fits in
    let number : little_number 2 (take 2 bytes) ≡ count = little_from-take 0 2 2 bytes (omega arith) in
    let front : little_bytes 2 (length pairs) ≡ take 2 bytes =
    ap (little_bytes 2) (length-pairs_from count (drop 2 bytes) ∙ sym number)
    ∙ le_bytes_2 (take 2 bytes) _ (length-take-le 2 bytes is.counted) two (omega arith) in
    let rest = spelled-pairs count (drop 2 bytes) (omega (arith, is.there, length-drop 2 bytes)) (drop-bytes 2 bytes fits) in
    sym (append_assoc (little_bytes 2 (length pairs)) (flat_map spell_pair pairs) (drop (count * 22) (drop 2 bytes))
    ∙ ap (λ (behind : List ℕ). little_bytes 2 (length pairs) ++ behind) rest
    ∙ ap (λ (two : List ℕ). two ++ drop 2 bytes) front
    ∙ take-append-drop 2 bytes)

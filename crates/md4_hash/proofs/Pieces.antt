-- A message that grows by pieces: what the registers have taken in, and the bytes that fill no block.
use Rattle.std.proofs.Common.{◌≡◌, ℕ, ◌+◌, ◌-◌, ◌*◌, ◌/◌, ◌%◌, ◌^◌, ◌<◌, ◌≤◌, List, ◌++◌, length, take, drop, refl, sym, ◌∙◌, arith, length-append, length-drop}
use Rattle.std.proofs.lemmas.List.{take-append-drop, length-take-le, drop-drop, drop_at, drop_all, append_assoc, append-nil}
use borrow.Rule.Slice.PartMut.{put_mid}
use Rattle.md4_hash.specs.Md4.{after_blocks, after, start, padding, digest, md4, rest_of, IsRest, Holds}
use Rattle.md4_hash.proofs.Blocks.{after-append, md4_split}

-- the length of the whole blocks
abbrev pub whole : List ℕ → ℕ
whole bytes = length bytes - length bytes % 64

pub whole_blocks : (bytes : List ℕ) → length (take (whole bytes) bytes) % 64 ≡ 0
whole_blocks bytes = omega (arith, length-take-le (whole bytes) bytes (omega arith))

-- less than a block changes no register
pub after-short : (v bytes : List ℕ) → length bytes < 64 → after v bytes ≡ v
unfolding after after_blocks
after-short v bytes short =
    let none : length bytes / 64 ≡ 0 = omega arith in
    rw none refl

-- the rest changes no register
pub after-whole : (v bytes : List ℕ) → after v (take (whole bytes) bytes) ≡ after v bytes
after-whole v bytes =
    let front : List ℕ = take (whole bytes) bytes in
    let short : length (rest_of bytes) < 64 = omega (arith, length-drop (whole bytes) bytes) in
    let apart : after v (front ++ rest_of bytes) ≡ after v front =
    after-append v front (rest_of bytes) (whole_blocks bytes) ∙ after-short (after v front) (rest_of bytes) short in
    sym (rw take-append-drop at apart)

pub rest_of-append : (front back : List ℕ) → length front % 64 ≡ 0 → rest_of (front ++ back) ≡ rest_of back
rest_of-append front back aligned =
    let place : whole (front ++ back) ≡ length front + whole back = omega (arith, length-append front back) in
    rw (place, ← drop-drop (whole back) (length front) (front ++ back), drop_at front back (length front) refl) refl

pub IsRest-append : (buffer front back : List ℕ) → length front % 64 ≡ 0 → IsRest buffer back → IsRest buffer (front ++ back)
IsRest-append buffer front back aligned left =
    let used : length (front ++ back) % 64 ≡ length back % 64 = omega (arith, length-append front back) in
    let same : take (length (front ++ back) % 64) buffer ≡ rest_of back = rw used left in
    same ∙ sym (rest_of-append front back aligned)

-- a buffer that is filled to its end
pub put_mid_full : (used k : ℕ) (buffer front : List ℕ) → length buffer ≤ used + k → put_mid used k buffer front ≡ take used buffer ++ front
put_mid_full used k buffer front full =
    rw (drop_all k (drop used buffer) (omega (arith, length-drop used buffer)), append-nil front) refl

-- a piece that fills the block which the buffer begins
filled_block : (used : ℕ) (buffer piece : List ℕ) → used < 64 → length buffer ≡ 64 → 64 - used ≤ length piece
    → length (take used buffer ++ take (64 - used) piece) % 64 ≡ 0
filled_block used buffer piece low long fits =
    omega (arith, length-append (take used buffer) (take (64 - used) piece), length-take-le used buffer (omega arith), length-take-le (64 - used) piece fits)

filled_parts : (used : ℕ) (buffer piece : List ℕ) → take used buffer ++ piece ≡ (take used buffer ++ take (64 - used) piece) ++ drop (64 - used) piece
filled_parts used buffer piece = rw (append_assoc (take used buffer) (take (64 - used) piece) (drop (64 - used) piece), take-append-drop (64 - used) piece) refl

pub after-filled : (v buffer piece : List ℕ) (used : ℕ) → used < 64 → length buffer ≡ 64 → 64 - used ≤ length piece
    → after (after v (take used buffer ++ take (64 - used) piece)) (drop (64 - used) piece) ≡ after v (take used buffer ++ piece)
after-filled v buffer piece used low long fits =
    rw (filled_parts used buffer piece) (sym (after-append v _ _ (filled_block used buffer piece low long fits)))

pub IsRest-filled : (buffer' buffer piece : List ℕ) (used : ℕ) → used < 64 → length buffer ≡ 64 → 64 - used ≤ length piece
    → IsRest buffer' (drop (64 - used) piece) → IsRest buffer' (take used buffer ++ piece)
IsRest-filled buffer' buffer piece used low long fits left =
    rw (filled_parts used buffer piece) (IsRest-append buffer' _ _ (filled_block used buffer piece low long fits) left)

-- a piece behind a message
pub Holds-append : (v buffer v' buffer' m d : List ℕ) (total total' used : ℕ) → Holds v buffer total m → used ≡ total % 64
    → v' ≡ after v (take used buffer ++ d) → IsRest buffer' (take used buffer ++ d) → total' ≡ (total + length d) % 2 ^ 64 → Holds v' buffer' total' (m ++ d)
Holds-append v buffer v' buffer' m d total total' used held at taken rest count =
    let counted = held.count in
    let front : List ℕ = take (whole m) m in
    let in_block : used ≡ length m % 64 = omega arith in
    let kept : take used buffer ≡ rest_of m = rw in_block held.rest in
    let parts : m ++ d ≡ front ++ (rest_of m ++ d) = rw (← append_assoc front (rest_of m) d, take-append-drop (whole m) m) refl in
    let before : v ≡ after start front = held.taken ∙ sym (after-whole start m) in
    record {
      taken = taken ∙ rw (kept, before, parts) (sym (after-append start front (rest_of m ++ d) (whole_blocks m)));
      rest = rw parts (IsRest-append buffer' front (rest_of m ++ d) (whole_blocks m) (rw kept at rest));
      count = omega (arith, length-append m d);
    }

-- whole blocks leave no rest
rest-none : (buffer bytes : List ℕ) → length bytes % 64 ≡ 0 → IsRest buffer bytes
rest-none buffer bytes none = rw none (sym (drop_all (length bytes - 0) bytes (omega arith)))

-- whole blocks behind whole blocks
pub Holds-blocks : (v buffer v' m d : List ℕ) (total total' : ℕ) → Holds v buffer total m → length m % 64 ≡ 0 → length d % 64 ≡ 0
    → v' ≡ after (after start m) d → total' ≡ (total + length d) % 2 ^ 64 → Holds v' buffer total' (m ++ d)
Holds-blocks v buffer v' m d total total' held begins blocks found count =
    let counted = held.count in
    let long = length-append m d in
    record {
      taken = found ∙ sym (after-append start m d begins);
      rest = rest-none buffer (m ++ d) (omega (arith, long, begins, blocks));
      count = omega (arith, long, counted, count);
    }

padding-mod : (n : ℕ) → padding (n % 2 ^ 64) ≡ padding n
padding-mod n =
    let zeros : n % 2 ^ 64 % 64 ≡ n % 64 = omega arith in
    let bits : n % 2 ^ 64 * 8 % 2 ^ 64 ≡ n * 8 % 2 ^ 64 = omega arith in
    rw (zeros, bits) refl

-- the digest of a message that is held
pub Holds-digest : (v buffer m : List ℕ) (total used : ℕ) → Holds v buffer total m → used ≡ total % 64
    → digest (after v (take used buffer ++ padding total)) ≡ md4 m
Holds-digest v buffer m total used held at =
    let counted = held.count in
    let front : List ℕ = take (whole m) m in
    let in_block : used ≡ length m % 64 = omega arith in
    let kept : take used buffer ≡ rest_of m = rw in_block held.rest in
    let before : v ≡ after start front = held.taken ∙ sym (after-whole start m) in
    rw (counted, padding-mod (length m), kept, before) (md4_split m front (rest_of m) (take-append-drop (whole m) m) (whole_blocks m))

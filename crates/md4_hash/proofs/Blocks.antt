-- The registers after the blocks of a list that is put together, and the blocks that end a message.
use Rattle.std.proofs.Common.{◌≡◌, ℕ, zero, suc, ◌+◌, ◌-◌, ◌*◌, ◌/◌, ◌%◌, ◌≤◌, List, ◌∷◌, ◌++◌, length, take, drop, replicate, refl, ap, arith, length-append, length-drop, add-one, add-suc, add-zero}
use Rattle.std.proofs.Math.ListN.{set}
use Rattle.std.proofs.lemmas.List.{take-append-le, drop-append-le, drop_at, drop-drop, drop-replicate, replicate-append-replicate, length-replicate, set_at, take_at, append_assoc}
use Rattle.std.proofs.lemmas.Slice.{take-put_mid}
use borrow.Rule.Slice.PartMut.{put_mid}
use Rattle.md4_hash.specs.Md4.{after_block, after_blocks, after, start, padding, padded, digest, md4}

pub after_blocks_next : (v bytes : List ℕ) (n : ℕ) → after_blocks v bytes (n + 1) ≡ after_block (after_blocks v bytes n) (take 64 (drop (n * 64) bytes))
unfolding after_blocks
after_blocks_next v bytes n = rw add-one refl

-- the first n blocks are those of any list that begins with them
pub after_blocks-front : (v front back : List ℕ) (n : ℕ) → n * 64 ≤ length front → after_blocks v (front ++ back) n ≡ after_blocks v front n
unfolding after_blocks
after_blocks-front v front back zero fits = refl
after_blocks-front v front back (suc n) fits =
    let room : 64 ≤ length (drop (n * 64) front) = omega (arith, length-drop (n * 64) front) in
    let block : take 64 (drop (n * 64) (front ++ back)) ≡ take 64 (drop (n * 64) front) =
    rw (drop-append-le (n * 64) front back (omega arith)) (take-append-le 64 (drop (n * 64) front) back room) in
    rw (block, after_blocks-front v front back n (omega arith)) refl

-- first the blocks of the front, then those of the back
pub after_blocks-append : (v front back : List ℕ) (n k : ℕ) → length front ≡ n * 64 → after_blocks v (front ++ back) (n + k) ≡ after_blocks (after_blocks v front n) back k
unfolding after_blocks
after_blocks-append v front back n zero long = rw add-zero (after_blocks-front v front back n (omega arith))
after_blocks-append v front back n (suc k) long =
    let place : (n + k) * 64 ≡ n * 64 + k * 64 = omega arith in
    let behind : drop ((n + k) * 64) (front ++ back) ≡ drop (k * 64) back =
    rw (place, ← drop-drop (k * 64) (n * 64) (front ++ back), drop_at front back (n * 64) long) refl in
    rw (add-suc, behind, after_blocks-append v front back n k long) refl

pub after-append : (v front back : List ℕ) → length front % 64 ≡ 0 → after v (front ++ back) ≡ after (after v front) back
unfolding after
after-append v front back whole =
    let n : ℕ = length front / 64 in
    let count : length (front ++ back) / 64 ≡ n + length back / 64 = omega (arith, length-append front back) in
    rw count (after_blocks-append v front back n (length back / 64) (omega arith))

-- a message's digest, where its front and its rest are taken in apart
pub md4_split : (m front rest : List ℕ) → front ++ rest ≡ m → length front % 64 ≡ 0
    → digest (after (after start front) (rest ++ padding (length m))) ≡ md4 m
unfolding md4
md4_split m front rest parts whole =
    let regs : after (after start front) (rest ++ padding (length m)) ≡ after start (padded m) =
    rw (← after-append start front (rest ++ padding (length m)) whole, ← append_assoc front rest (padding (length m)), parts) refl in
    ap digest regs

-- a zeroed buffer that begins with the rest, with the byte 0x80 put behind it
zeros_split : (rest : List ℕ) (z w n : ℕ) → length rest + suc (z + w) ≡ n
    → set (rest ++ drop (length rest) (replicate n 0)) (length rest) 0x80 ≡ (rest ++ 0x80 ∷ replicate z 0) ++ replicate w 0
zeros_split rest z w n fits =
    let left : n - length rest ≡ suc (z + w) = omega arith in
    rw (drop-replicate {X = ℕ} (length rest) n 0, left, ← replicate-append-replicate {A = ℕ} z w 0, set_at rest 0 (replicate z 0 ++ replicate w 0) 0x80 (length rest) refl, append_assoc) refl

-- that buffer with the length behind z zeros, up to its end
pub padded_rest : (rest ys : List ℕ) (z e k n t : ℕ) → length rest + z + 1 ≡ e → e ≤ n → t ≡ e + length ys
    → take t (put_mid e k (set (rest ++ drop (length rest) (replicate n 0)) (length rest) 0x80) ys) ≡ rest ++ (0x80 ∷ replicate z 0 ++ ys)
padded_rest rest ys z e k n t place fits end =
    let head : List ℕ = rest ++ 0x80 ∷ replicate z 0 in
    let w : ℕ = n - e in
    let long : length head ≡ e = omega (arith, length-append rest (0x80 ∷ replicate z 0), length-replicate {A = ℕ} z 0) in
    let room : e ≤ length (head ++ replicate w 0) = omega (arith, length-append head (replicate w 0)) in
    rw (zeros_split rest z w n (omega arith), take-put_mid e k (head ++ replicate w 0) ys t end room, take_at head (replicate w 0) e long, append_assoc) refl

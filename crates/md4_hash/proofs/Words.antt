-- The sums of a step in the code's order, and the bits of its functions.
use Rattle.std.proofs.Common.{◌≡◌, ℕ, ◌+◌, ◌%◌, ◌^◌, ◌<◌, ◌∙◌, arith}
use Rattle.std.specs.Prelude.{min, max, bit_and, bit_or, bit_xor}
use Rattle.std.specs.Int.{bit_at}
use Rattle.std.proofs.lemmas.Nat.{or_disjoint}
use Rattle.std.proofs.lemmas.Nat.Bits.{bit_at_and, bit_at_or, bit_at_xor, bit_at-lt, bit_at-zero, same_from_bits}
use Rattle.md4_hash.specs.Md4.{majority, parity}

-- one bit of both terms of the majority's sum is not set in both
apart_bits : (x y z : ℕ) → x < 2 → y < 2 → z < 2 → min (min y z) (min x ((y + z) % 2)) ≡ 0
apart_bits x y z hx hy hz = omega arith

majority_bits : (x y z : ℕ) → x < 2 → y < 2 → z < 2 → max (max (min x y) (min x z)) (min y z) ≡ max (min y z) (min x ((y + z) % 2))
majority_bits x y z hx hy hz = omega arith

parity_bits : (x y z : ℕ) → x < 2 → y < 2 → z < 2 → (x + (y + z) % 2) % 2 ≡ ((x + y) % 2 + z) % 2
parity_bits x y z hx hy hz = omega arith

terms_apart : (x y z : ℕ) → bit_and (bit_and y z) (bit_and x (bit_xor y z)) ≡ 0
terms_apart x y z =
    same_from_bits _ 0 (λ i.
    simp (bit_at_and, bit_at_xor, bit_at-zero) (apart_bits (bit_at x i) (bit_at y i) (bit_at z i) (bit_at-lt x i) (bit_at-lt y i) (bit_at-lt z i)))

pub majority_sum : (x y z : ℕ) → majority x y z ≡ bit_and y z + bit_and x (bit_xor y z)
majority_sum x y z =
    let same : majority x y z ≡ bit_or (bit_and y z) (bit_and x (bit_xor y z)) =
    same_from_bits _ _ (λ i.
    simp (bit_at_and, bit_at_or, bit_at_xor) (majority_bits (bit_at x i) (bit_at y i) (bit_at z i) (bit_at-lt x i) (bit_at-lt y i) (bit_at-lt z i))) in
    same ∙ or_disjoint _ _ (terms_apart x y z)

pub parity_turned : (x y z : ℕ) → bit_xor x (bit_xor y z) ≡ parity x y z
parity_turned x y z =
    same_from_bits _ _ (λ i.
    simp bit_at_xor (parity_bits (bit_at x i) (bit_at y i) (bit_at z i) (bit_at-lt x i) (bit_at-lt y i) (bit_at-lt z i)))

-- a step's sum with f last, and with both terms of the majority last
pub sum_last : (a f x t : ℕ) → (((a + x) % 2 ^ 32 + t) % 2 ^ 32 + f) % 2 ^ 32 ≡ (a + f + x + t) % 2 ^ 32
sum_last a f x t = omega arith

pub sum_first : (a f x : ℕ) → ((a + x) % 2 ^ 32 + f) % 2 ^ 32 ≡ (a + f + x + 0) % 2 ^ 32
sum_first a f x = omega arith

pub sum_split : (a g h x t : ℕ) → ((((a + x) % 2 ^ 32 + t) % 2 ^ 32 + g) % 2 ^ 32 + h) % 2 ^ 32 ≡ (a + (g + h) + x + t) % 2 ^ 32
sum_split a g h x t = omega arith

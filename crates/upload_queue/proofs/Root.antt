-- The square root is the number whose square is at most n, and whose next square is above it.
use Rattle.std.proofs.Common.{◌≡◌, ℕ, zero, suc, ◌+◌, ◌*◌, ◌<◌, ◌≤◌, Bool, true, false, nat_le, cond, refl, arith, inl, inr}
use Rattle.std.proofs.lemmas.Nat.{mul-le}
use Rattle.std.proofs.lemmas.Bool.{cases_order}
use Rattle.std.proofs.lemmas.Bool.Decides.{nat_tests}
use Rattle.upload_queue.specs.Credit.{square_root}

-- r is the root of n
pub record IsRoot (n r : ℕ) : Type 0 where
  pub low : r * r ≤ n
  pub high : n < (r + 1) * (r + 1)

next : (r : ℕ) → (r + 1) * (r + 1) < (r + 1 + 1) * (r + 1 + 1)
next r = let grown = mul-le (r + 1) (r + 1 + 1) (r + 1) (r + 1 + 1) (omega arith) (omega arith) in omega arith

step : (n r : ℕ) → IsRoot n r → (b : Bool) → nat_le ((r + 1) * (r + 1)) (suc n) ≡ b → IsRoot (suc n) (cond b (r + 1) r)
step n r h true is = let l = h.low in let t = h.high in let g = next r in record { low = grind (arith, nat_tests); high = grind (arith, nat_tests) }
step n r h false is = let l = h.low in let t = h.high in record { low = omega arith; high = grind (arith, nat_tests) }

pub IsRoot-square_root : (n : ℕ) → IsRoot n (square_root n)
IsRoot-square_root zero = record { low = omega arith; high = omega arith }
IsRoot-square_root (suc n) = step n (square_root n) (IsRoot-square_root n) _ refl

at_most : (n r s : ℕ) → r * r ≤ n → n < (s + 1) * (s + 1) → r ≤ s
at_most n r s low high =
    elim (cases_order r s) [
      | inl same ↦ omega arith
      | inr (inl lt) ↦ omega arith
      | inr (inr gt) ↦ let over = mul-le (s + 1) (s + 1) r r (omega arith) (omega arith) in omega arith
    ]

pub square_root_is : (n r : ℕ) → r * r ≤ n → n < (r + 1) * (r + 1) → square_root n ≡ r
square_root_is n r low high =
    let root = IsRoot-square_root n in
    let up = at_most n (square_root n) r root.low high in
    let down = at_most n r (square_root n) low root.high in
    omega arith

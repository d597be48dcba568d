-- How a node is divided.
use Rattle.std.proofs.Common.{arith, ◌≡◌, ℕ, ◌+◌, ◌*◌, ◌/◌, ◌<◌, ◌≤◌, Bool, true, false, nat_lt, if◌then◌else◌, ap, inl, inr}
use Rattle.std.proofs.lemmas.Bool.{cases_lt}
use Rattle.std.proofs.lemmas.Bool.Decides.{nat_tests}
use Rattle.std.specs.Int.{div_ceil}
use Rattle.part_sizes.specs.declared.part.TheConstants.{PART}
use Rattle.part_sizes.specs.declared.block.TheConstants.{BLOCK}
use Rattle.aich_tree.specs.Tree.{is_leaf, left_bytes}

abbrev pub flag : Bool → ℕ
flag left = if left then 1 else 0

pub flag_small : (left : Bool) → flag left ≤ 1
flag_small true = omega arith
flag_small false = omega arith

-- a node of more than one part is divided at the end of a part
pub left_bytes-parts : (n : ℕ) (left : Bool) → PART < n → left_bytes n left ≡ (div_ceil n PART + flag left) / 2 * PART
left_bytes-parts n left above =
    let test : nat_lt PART n ≡ true = grind (arith, nat_tests) in
    ap (λ (b : Bool). (div_ceil n (if b then PART else BLOCK) + flag left) / 2 * (if b then PART else BLOCK)) test

-- any other node at the end of a block
pub left_bytes-blocks : (n : ℕ) (left : Bool) → n ≤ PART → left_bytes n left ≡ (div_ceil n BLOCK + flag left) / 2 * BLOCK
left_bytes-blocks n left below =
    let test : nat_lt PART n ≡ false = grind (arith, nat_tests) in
    ap (λ (b : Bool). (div_ceil n (if b then PART else BLOCK) + flag left) / 2 * (if b then PART else BLOCK)) test

-- both children have bytes
pub left_bytes-some : (n : ℕ) (left : Bool) → BLOCK < n → 0 < left_bytes n left
left_bytes-some n left above =
    let small = flag_small left in
    elim (cases_lt PART n) [
      | inl parts ↦ let e = left_bytes-parts n left parts in omega arith
      | inr blocks ↦ let e = left_bytes-blocks n left blocks in omega arith
    ]

pub left_bytes-proper : (n : ℕ) (left : Bool) → BLOCK < n → left_bytes n left < n
left_bytes-proper n left above =
    let small = flag_small left in
    elim (cases_lt PART n) [
      | inl parts ↦ let e = left_bytes-parts n left parts in omega arith
      | inr blocks ↦ let e = left_bytes-blocks n left blocks in omega arith
    ]

pub leaf-test : (n : ℕ) → n ≤ BLOCK → is_leaf n ≡ true
leaf-test n small = grind (arith, nat_tests)

pub branch-test : (n : ℕ) → BLOCK < n → is_leaf n ≡ false
branch-test n large = grind (arith, nat_tests)

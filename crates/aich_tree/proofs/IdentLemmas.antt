-- A node's positions do not depend on the number of steps that are allowed, where there are enough.
use Rattle.std.proofs.Common.{arith, ◌≡◌, ℕ, zero, suc, ◌/◌, ◌<◌, ◌≤◌, true, false, nat_eq, Some, None, option_and_then, refl, sym, ap, ◌∙◌, inl, inr}
use Rattle.std.proofs.lemmas.Bool.{cases_lt, cases_eq}
use Rattle.std.proofs.lemmas.Bool.Decides.{nat_tests}
use Rattle.aich_tree.specs.Ident.{node_range, range_within, child_range}

zero_none : (steps size : ℕ) → range_within steps size 0 ≡ None
unfolding range_within
zero_none zero size = refl
zero_none (suc steps) size = ap (option_and_then (child_range 0)) (zero_none steps size)

next : (steps size ident : ℕ) → 1 < ident → range_within (suc steps) size ident ≡ option_and_then (child_range ident) (range_within steps size (ident / 2))
unfolding range_within
next steps size ident above =
    let test : nat_eq ident 1 ≡ false = grind (arith, nat_tests) in
    rw test refl

root : (steps size ident : ℕ) → ident ≡ 1 → range_within (suc steps) size ident ≡ Some (record { s = 0; e = size })
unfolding range_within
root steps size ident one =
    let test : nat_eq ident 1 ≡ true = grind (arith, nat_tests) in
    rw test refl

enough : (steps others size ident : ℕ) → ident ≤ steps → ident ≤ others → range_within steps size ident ≡ range_within others size ident
enough zero others size ident fits fits' =
    let none : ident ≡ 0 = omega arith in
    rw none (zero_none zero size ∙ sym (zero_none others size))
enough (suc steps) zero size ident fits fits' =
    let none : ident ≡ 0 = omega arith in
    rw none (zero_none (suc steps) size ∙ sym (zero_none zero size))
enough (suc steps) (suc others) size ident fits fits' =
    elim (cases_lt 1 ident) [
      | inl above ↦
          next steps size ident above
          ∙ ap (option_and_then (child_range ident)) (enough steps others size (ident / 2) (omega arith) (omega arith))
          ∙ sym (next others size ident above)
      | inr below ↦ elim (cases_eq ident 1) [
        | inl one ↦ root steps size ident one ∙ sym (root others size ident one)
        | inr other ↦
            let none : ident ≡ 0 = omega arith in
            rw none (zero_none (suc steps) size ∙ sym (zero_none (suc others) size))
      ]
    ]

pub node_range-none : (size : ℕ) → node_range size 0 ≡ None
unfolding node_range
node_range-none size = zero_none 0 size

pub node_range-root : (size : ℕ) → node_range size 1 ≡ Some (record { s = 0; e = size })
unfolding node_range
node_range-root size = root 0 size 1 refl

before : (n : ℕ) → 0 < n → (steps : ℕ) × (n ≡ suc steps)
before zero some = absurd (omega arith)
before (suc steps) some = (steps, refl)

pub node_range-child : (size ident : ℕ) → 1 < ident → node_range size ident ≡ option_and_then (child_range ident) (node_range size (ident / 2))
unfolding node_range
node_range-child size ident above =
    let steps = before ident (omega arith) in
    ap (λ (n : ℕ). range_within n size ident) steps.1
    ∙ next steps.0 size ident above
    ∙ ap (option_and_then (child_range ident)) (enough steps.0 (ident / 2) size (ident / 2) (omega (arith, steps.1)) (omega arith))

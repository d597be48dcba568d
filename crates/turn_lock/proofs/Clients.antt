-- Facts for who uses the lock. More on beginnings of a log and on rows stands in `Lists`.
use Rattle.std.proofs.Common.{◌≡◌, ◌≢◌, ℕ, suc, ◌+◌, Some, List, [], ◌∷◌, ◌++◌, length, refl, sym, ap, ◌∙◌, arith}
use lib.ListN.{get_elem?}
use Rattle.atomic_table.proofs.Lists.{at_longer}
use Rattle.turn_lock.specs.Views.{Agrees, IsOnce, first_number, first_row, later}
use Rattle.turn_lock.proofs.Lists.{some_same, none_some}

module _ {I : Type 0} where
  at_behind : (xs ys : List (ℕ × List I)) (k : ℕ) → get_elem? (xs ++ ys) (k + length xs) ≡ get_elem? ys k
  at_behind [] ys k = ap (λ n. get_elem? ys n) (omega arith)
  at_behind (x ∷ xs) ys k = let next : k + length (x ∷ xs) ≡ suc (k + length xs) = omega arith in ap (λ n. get_elem? (x ∷ (xs ++ ys)) n) next ∙ at_behind xs ys k

  -- rows that agree with two passes' numbers agree with those of each
  pub agrees_front : (rows : ℕ → List I) (xs ys : List (ℕ × List I)) → Agrees rows (xs ++ ys) → Agrees rows xs
  agrees_front rows xs ys agrees k e there = agrees k e (at_longer xs ys k e there)

  pub agrees_back : (rows : ℕ → List I) (xs ys : List (ℕ × List I)) → Agrees rows (xs ++ ys) → Agrees rows ys
  agrees_back rows xs ys agrees k e there = agrees (k + length xs) e (at_behind xs ys k ∙ there)

  -- the first number and row, and what stands behind, are the whole
  pub own_first : (owned : List (ℕ × List I)) (n : ℕ) → first_number owned ≡ Some n → owned ≡ (n, first_row owned) ∷ later owned
  own_first [] n first = none_some n first
  own_first (e ∷ es) n first = ap (λ m. (m, e.1) ∷ es) (some_same e.0 n first)

  -- two passes, of which one took the other in, have two numbers
  pub numbers_differ : (xs ys : List (ℕ × List I)) (m n : ℕ) → IsOnce (xs ++ ys) → first_number xs ≡ Some m → first_number ys ≡ Some n → m ≢ n
  numbers_differ [] ys m n once first second = none_some m first
  numbers_differ (x ∷ xs) [] m n once first second = none_some n second
  numbers_differ (x ∷ xs) (y ∷ ys) m n once first second = λ same.
      let place : 0 ≡ 0 + length (x ∷ xs) = once 0 (0 + length (x ∷ xs)) x y refl (at_behind (x ∷ xs) (y ∷ ys) 0) (some_same x.0 m first ∙ (same ∙ sym (some_same y.0 n second))) in absurd (omega arith)

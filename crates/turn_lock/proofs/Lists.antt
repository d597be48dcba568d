-- Lists read by `get_elem?`, beginnings of a list, and the two cases of an option.
use Rattle.std.proofs.Common.{◌≡◌, ◌≢◌, ◌⊎◌, ℕ, zero, suc, ◌+◌, ◌<◌, Some, None, List, [], ◌∷◌, ◌++◌, length, set, sym, refl, ap, ◌∙◌, subst, inl, inr, ⊎_elim, arith}
use mathlib.Core.Option.{some, some-injective, some-ne-none}
use mathlib.Core.Logic.{dite}
use native.Mathlib.Decide.{ℕ_discrete}
use lib.ListN.{get_elem?}
use Rattle.std.proofs.lemmas.List.{append-nil, append_assoc}
use Rattle.atomic_table.proofs.Lists.{at_set}
use Rattle.turn_lock.specs.Views.{BeginsWith, Agrees, first_number, first_row, first_from}

module _ {A : Type 0} where
  pub some_same : (a b : A) → Some a ≡ Some b → a ≡ b
  some_same a b e = cc

  pub none_some : {B : Type 0} (a : A) → None ≡ Some a → B
  none_some {B} a e = cc

  -- one place has one value
  pub at_once : (l : List A) (i : ℕ) (a b : A) → get_elem? l i ≡ some a → get_elem? l i ≡ some b → a ≡ b
  at_once l i a b p q = some-injective a b (sym p ∙ q)

  pub no_place : {B : Type 0} (i : ℕ) (a : A) → get_elem? [] i ≡ some a → B
  no_place i a e = absurd (some-ne-none a (sym e))

  pub set_there : (l : List A) (i : ℕ) (a b : A) → get_elem? l i ≡ some a → get_elem? (set l i b) i ≡ some b
  set_there [] i a b e = no_place i a e
  set_there (x ∷ xs) zero a b e = refl
  set_there (x ∷ xs) (suc i) a b e = set_there xs i a b e

  pub only_place : (x : A) (k : ℕ) (a : A) → get_elem? (x ∷ []) k ≡ some a → (k ≡ 0) × (x ≡ a)
  only_place x zero a e = (refl, some-injective x a e)
  only_place x (suc k) a e = no_place k a e

  pub at_append : (xs ys : List A) (k : ℕ) (a : A) → get_elem? (xs ++ ys) k ≡ some a
      → ((k < length xs) × (get_elem? xs k ≡ some a)) ⊎ ((l : ℕ) × (k ≡ length xs + l) × (get_elem? ys l ≡ some a))
  at_append [] ys k a e = inr (k, omega arith, e)
  at_append (x ∷ xs) ys zero a e = inl (omega arith, e)
  at_append (x ∷ xs) ys (suc k) a e = ⊎_elim (λ (t : (k < length xs) × (get_elem? xs k ≡ some a)). let h : k < length xs = t.0 in inl (omega arith, t.1))
      (λ (t : (l : ℕ) × (k ≡ length xs + l) × (get_elem? ys l ≡ some a)). let h : k ≡ length xs + t.0 = t.1 in inr (t.0, omega arith, t.2)) (at_append xs ys k a e)

  -- what holds of the new value, and of each other, holds of each
  pub each_set : (P : ℕ → A → Type 0) (l : List A) (i : ℕ) (a : A) → P i a → ((j : ℕ) (b : A) → j ≢ i → get_elem? l j ≡ some b → P j b)
      → (j : ℕ) (b : A) → get_elem? (set l i a) j ≡ some b → P j b
  each_set P l i a here others j b e = ⊎_elim (λ (t : (j ≡ i) × (a ≡ b)). subst (λ (x : ℕ × A). P x.0 x.1) (λ k. (sym t.0 k, t.1 k)) here)
      (λ (t : (j ≢ i) × (get_elem? l j ≡ some b)). others j b t.0 t.1) (at_set l i j a b e)

  pub each_known : (P : ℕ → A → Type 0) (l : List A) (i : ℕ) (a : A) → get_elem? l i ≡ some a → P i a → ((j : ℕ) (b : A) → j ≢ i → get_elem? l j ≡ some b → P j b)
      → (j : ℕ) (b : A) → get_elem? l j ≡ some b → P j b
  each_known P l i a at here others j b e = dite (ℕ_discrete j i)
      (λ same. subst (λ (x : ℕ × A). P x.0 x.1) (λ k. (sym same k, at_once l i a b at (ap (λ n. get_elem? l n) (sym same) ∙ e) k)) here)
      (λ other. others j b other e)

  pub only_set : (l : List A) (x : A) → length l ≡ 1 → set l 0 x ≡ x ∷ []
  only_set [] x e = absurd (omega arith)
  only_set (y ∷ []) x e = refl
  only_set (y ∷ z ∷ zs) x e = absurd (omega arith)

  pub begins_itself : (xs : List A) → BeginsWith xs xs
  begins_itself xs = ([], sym (append-nil xs))

  pub begins_through : (xs ys zs : List A) → BeginsWith xs ys → BeginsWith ys zs → BeginsWith xs zs
  begins_through xs ys zs p q = (q.0 ++ p.0, p.1 ∙ (ap (λ l. l ++ p.0) q.1 ∙ append_assoc zs q.0 p.0))

module _ {I : Type 0} where
  -- the row that stands first is that of the first number
  pub first_row_agrees : (rows : ℕ → List I) (owned : List (ℕ × List I)) (n : ℕ) → Agrees rows owned → first_number owned ≡ Some n → first_row owned ≡ rows n
  first_row_agrees rows [] n agrees first = none_some n first
  first_row_agrees rows (e ∷ es) n agrees first = agrees 0 e refl ∙ ap rows (some_same e.0 n first)

  -- rows that agree are the same rows
  pub first_from_same : (rows : ℕ → List I) (owned : List (ℕ × List I)) → Agrees rows owned → first_from rows owned ≡ owned
  first_from_same rows [] agrees = refl
  first_from_same rows (e ∷ es) agrees = λ i. (e.0, sym (agrees 0 e refl) i) ∷ es

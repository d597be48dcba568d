-- What is found in a list, and how many.
use Rattle.std.proofs.Common.{◌≡◌, ℕ, ◌+◌, ◌==◌, ◌||◌, T, Bool, true, false, cond, subst, List, [], ◌∷◌, ◌++◌, length, not, ap, refl, ◌∙◌, arith}
use Rattle.std.proofs.lemmas.Bool.Decides.{nat_tests}
use Rattle.std.specs.List.{list_any}
use Rattle.std.specs.Prelude.{Option, Some, None, is_some, is_none, unwrap_or, find, filter, count_by}
use Rattle.std.proofs.lemmas.List.Sums.{length-filter}

pub itself : (n : ℕ) → (n == n) ≡ true
itself n = grind (arith, nat_tests)

found_or : {X : Type 0} (y x : X) (o q : Option X) (b : Bool) → (o ≡ None → q ≡ Some x) → cond b (Some y) o ≡ None → cond b (Some y) q ≡ Some x
found_or y x o q true rest e = absurd (subst (λ k. T (is_some k)) e tt)
found_or y x o q false rest e = rest e

-- the element that was added, where none was found before
pub find_added : {X : Type 0} (p : X → Bool) (xs : List X) (x : X) → find p xs ≡ None → p x ≡ true → find p (xs ++ x ∷ []) ≡ Some x
find_added p [] x none here = ap (λ b. cond b (Some x) None) here
find_added p (y ∷ xs) x none here = found_or y x (find p xs) (find p (xs ++ x ∷ [])) (p y) (λ e. find_added p xs x e here) none

kept : {X : Type 0} (b any : Bool) (x : X) (xs : List X) → not any ≡ (1 + length xs == 1) → not (b || any) ≡ (1 + length (cond b (x ∷ xs) xs) == 1)
kept true any x xs rest = grind (arith, nat_tests)
kept false any x xs rest = rest

any-filter : {X : Type 0} (p : X → Bool) (xs : List X) → not (list_any p xs) ≡ (1 + length (filter p xs) == 1)
any-filter p [] = refl
any-filter p (x ∷ xs) = kept (p x) (list_any p xs) x (filter p xs) (any-filter p xs)

-- none passes where none is counted
pub any-count : {X : Type 0} (p : X → Bool) (xs : List X) → not (list_any p xs) ≡ (1 + count_by p xs == 1)
any-count p xs = any-filter p xs ∙ ap (λ n. 1 + n == 1) (length-filter p xs)

passed : {X : Type 0} (p : X → Bool) (y x : X) (o : Option X) (b : Bool) → p y ≡ b → (o ≡ Some x → p x ≡ true) → cond b (Some y) o ≡ Some x → p x ≡ true
passed p y x o true is rest e = subst (λ z. p z ≡ true) (ap (λ k. unwrap_or k y) e) is
passed p y x o false is rest e = rest e

-- what is found passes
pub find_passes : {X : Type 0} (p : X → Bool) (xs : List X) (x : X) → find p xs ≡ Some x → p x ≡ true
find_passes p [] x e = absurd (subst (λ k. T (is_none k)) e tt)
find_passes p (y ∷ xs) x e = passed p y x (find p xs) (p y) refl (find_passes p xs x) e

-- some element passes where one is found
pub any-find : {X : Type 0} (p : X → Bool) (xs : List X) → list_any p xs ≡ is_some (find p xs)
any-find p [] = refl
any-find p (x ∷ xs) = elim (p x) as (λ b. (b || list_any p xs) ≡ is_some (cond b (Some x) (find p xs))) [ true ↦ refl | false ↦ any-find p xs ]

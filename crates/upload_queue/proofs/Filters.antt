-- What a filter, or an element behind the others, changes of a search and of a count.
use Rattle.std.proofs.Common.{◌≡◌, ◌+◌, ◌||◌, Bool, true, false, cond, List, [], ◌∷◌, ◌++◌, length, length-append, append-nil, ap, refl, sym, ◌∙◌, arith}
use Rattle.std.proofs.lemmas.List.Elements.{filter-append}
use Rattle.std.proofs.lemmas.List.Sums.{length-filter}
use Rattle.std.specs.List.{list_any}
use Rattle.std.specs.Prelude.{Some, None, find, filter, count_by}

fails : (a b : Bool) → (a ≡ true → b ≡ true) → b ≡ false → a ≡ false
fails true b passes is = sym (passes refl) ∙ is
fails false b passes is = refl

module _ {X : Type 0} (p : X → Bool) where
  pub any_added : (xs : List X) (x : X) → p x ≡ false → list_any p (xs ++ x ∷ []) ≡ list_any p xs
  any_added [] x other = ap (λ b. b || false) other
  any_added (y ∷ xs) x other = ap (λ b. p y || b) (any_added xs x other)

  pub any_here : (xs : List X) (x : X) → p x ≡ true → list_any p (xs ++ x ∷ []) ≡ true
  any_here [] x here = ap (λ b. b || false) here
  any_here (y ∷ xs) x here = ap (λ b. p y || b) (any_here xs x here) ∙ either (p y)
    where
      either : (b : Bool) → (b || true) ≡ true
      either true = refl
      either false = refl

  pub find_as_before : (xs : List X) (x : X) → p x ≡ false → find p (xs ++ x ∷ []) ≡ find p xs
  find_as_before [] x other = ap (λ b. cond b (Some x) None) other
  find_as_before (y ∷ xs) x other = ap (λ o. cond (p y) (Some y) o) (find_as_before xs x other)

  pub count_added : (xs : List X) (x : X) → count_by p (xs ++ x ∷ []) ≡ count_by p xs + cond (p x) 1 0
  count_added xs x = sym (length-filter p (xs ++ x ∷ [])) ∙ ap length (filter-append p xs (x ∷ [])) ∙ added (filter p xs) (p x) ∙ ap (λ n. n + cond (p x) 1 0) (length-filter p xs)
    where
      added : (ys : List X) (b : Bool) → length (ys ++ cond b (x ∷ []) []) ≡ length ys + cond b 1 0
      added ys true = length-append ys (x ∷ [])
      added ys false = let same = ap length (append-nil ys) in omega arith

  module _ (q : X → Bool) where
    -- where the filter keeps each that passes
    module _ (kept : (x : X) → p x ≡ true → q x ≡ true) where
      pub any_kept : (xs : List X) → list_any p (filter q xs) ≡ list_any p xs
      any_kept [] = refl
      any_kept (x ∷ xs) =
          let rest = any_kept xs in
          elim (q x) as (λ b. q x ≡ b → list_any p (cond b (x ∷ filter q xs) (filter q xs)) ≡ (p x || list_any p xs)) [
            | true ↦ λ is. ap (λ b. p x || b) rest
            | false ↦ λ is. rest ∙ sym (ap (λ b. b || list_any p xs) (fails (p x) (q x) (kept x) is))
          ] refl

      pub find_kept : (xs : List X) → find p (filter q xs) ≡ find p xs
      find_kept [] = refl
      find_kept (x ∷ xs) =
          let rest = find_kept xs in
          elim (q x) as (λ b. q x ≡ b → find p (cond b (x ∷ filter q xs) (filter q xs)) ≡ cond (p x) (Some x) (find p xs)) [
            | true ↦ λ is. ap (λ o. cond (p x) (Some x) o) rest
            | false ↦ λ is. rest ∙ sym (ap (λ b. cond b (Some x) (find p xs)) (fails (p x) (q x) (kept x) is))
          ] refl

      filter_kept : (xs : List X) → filter p (filter q xs) ≡ filter p xs
      filter_kept [] = refl
      filter_kept (x ∷ xs) =
          let rest = filter_kept xs in
          elim (q x) as (λ b. q x ≡ b → filter p (cond b (x ∷ filter q xs) (filter q xs)) ≡ cond (p x) (x ∷ filter p xs) (filter p xs)) [
            | true ↦ λ is. ap (λ l. cond (p x) (x ∷ l) l) rest
            | false ↦ λ is. rest ∙ sym (ap (λ b. cond b (x ∷ filter p xs) (filter p xs)) (fails (p x) (q x) (kept x) is))
          ] refl

      pub count_kept : (xs : List X) → count_by p (filter q xs) ≡ count_by p xs
      count_kept xs = sym (length-filter p (filter q xs)) ∙ ap length (filter_kept xs) ∙ length-filter p xs

    -- where the filter keeps none that passes
    module _ (dropped : (x : X) → q x ≡ true → p x ≡ false) where
      pub any_dropped : (xs : List X) → list_any p (filter q xs) ≡ false
      any_dropped [] = refl
      any_dropped (x ∷ xs) =
          let rest = any_dropped xs in
          elim (q x) as (λ b. q x ≡ b → list_any p (cond b (x ∷ filter q xs) (filter q xs)) ≡ false) [
            | true ↦ λ is. ap (λ b. b || list_any p (filter q xs)) (dropped x is) ∙ rest
            | false ↦ λ is. rest
          ] refl

      pub find_dropped : (xs : List X) → find p (filter q xs) ≡ None
      find_dropped [] = refl
      find_dropped (x ∷ xs) =
          let rest = find_dropped xs in
          elim (q x) as (λ b. q x ≡ b → find p (cond b (x ∷ filter q xs) (filter q xs)) ≡ None) [
            | true ↦ λ is. ap (λ b. cond b (Some x) (find p (filter q xs))) (dropped x is) ∙ rest
            | false ↦ λ is. rest
          ] refl

      filter_dropped : (xs : List X) → filter p (filter q xs) ≡ []
      filter_dropped [] = refl
      filter_dropped (x ∷ xs) =
          let rest = filter_dropped xs in
          elim (q x) as (λ b. q x ≡ b → filter p (cond b (x ∷ filter q xs) (filter q xs)) ≡ []) [
            | true ↦ λ is. ap (λ b. cond b (x ∷ filter p (filter q xs)) (filter p (filter q xs))) (dropped x is) ∙ rest
            | false ↦ λ is. rest
          ] refl

      pub count_dropped : (xs : List X) → count_by p (filter q xs) ≡ 0
      count_dropped xs = sym (length-filter p (filter q xs)) ∙ ap length (filter_dropped xs)

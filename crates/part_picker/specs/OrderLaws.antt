-- What the order of the parts gives a caller that passes over some of them.
use Rattle.std.specs.Prelude.{◌≡◌, ℕ, zero, suc, ◌+◌, ◌<◌, ◌≤◌, Bool, true, false, ◌&&◌, ◌==◌, List, [], ◌∷◌, ◌++◌, length, slice_index, refl}
use Rattle.std.proofs.Common.{cond, ap, ◌∙◌, arith}
use Rattle.std.proofs.lemmas.List.Elements.{filter-append}
use Rattle.std.specs.List.{filter, flat_map, range_with_len}
use Rattle.part_picker.specs.Order.{with_count, by_count}

-- for each count from 0 to below the bound, those of the first n parts that pass and have the count, ascending
abbrev pub passing_by_count : (ℕ → Bool) → (ℕ → ℕ) → ℕ → ℕ → List ℕ
passing_by_count passes count_of n bound = flat_map (λ count. filter (λ i. passes i && (count_of i == count)) (range_with_len 0 n)) (range_with_len 0 bound)

filter-cond : (q : ℕ → Bool) (a : Bool) (x : ℕ) (l m : List ℕ) → filter q l ≡ m → filter q (cond a (x ∷ l) l) ≡ cond (q x && a) (x ∷ m) m
filter-cond q true x l m e = kept (q x)
  where
    kept : (b : Bool) → cond b (x ∷ filter q l) (filter q l) ≡ cond (b && true) (x ∷ m) m
    kept true = ap (λ k. x ∷ k) e
    kept false = e
filter-cond q false x l m e = dropped (q x)
  where
    dropped : (b : Bool) → filter q l ≡ cond (b && false) (x ∷ m) m
    dropped true = e
    dropped false = e

filter-filter : (p q : ℕ → Bool) (xs : List ℕ) → filter q (filter p xs) ≡ filter (λ x. q x && p x) xs
filter-filter p q [] = refl
filter-filter p q (x ∷ xs) = filter-cond q (p x) x (filter p xs) (filter (λ y. q y && p y) xs) (filter-filter p q xs)

filter-flat_map : (q : ℕ → Bool) (f : ℕ → List ℕ) (xs : List ℕ) → filter q (flat_map f xs) ≡ flat_map (λ x. filter q (f x)) xs
filter-flat_map q f [] = refl
filter-flat_map q f (x ∷ xs) = filter-append q (f x) (flat_map f xs) ∙ ap (λ l. filter q (f x) ++ l) (filter-flat_map q f xs)

pub flat_map_agree : (f g : ℕ → List ℕ) → ((x : ℕ) → f x ≡ g x) → (xs : List ℕ) → flat_map f xs ≡ flat_map g xs
flat_map_agree f g same [] = refl
flat_map_agree f g same (x ∷ xs) = ap (λ l. l ++ flat_map f xs) (same x) ∙ ap (λ l. g x ++ l) (flat_map_agree f g same xs)

filter_agree_within : (p q : ℕ → Bool) (a n : ℕ) → ((i : ℕ) → a ≤ i → i < a + n → p i ≡ q i) → filter p (range_with_len a n) ≡ filter q (range_with_len a n)
filter_agree_within p q a zero same = refl
filter_agree_within p q a (suc n) same =
    let rest = filter_agree_within p q (a + 1) n (λ i low high. same i (omega arith) (omega arith)) in
    ap (λ b. cond b (a ∷ filter p (range_with_len (a + 1) n)) (filter p (range_with_len (a + 1) n))) (same a (omega arith) (omega arith))
    ∙ ap (λ l. cond (q a) (a ∷ l) l) rest

-- the parts that pass stand in that order by whatever gives the counts
pub filter-by_count : (passes : ℕ → Bool) (count_of : ℕ → ℕ) (counts : List ℕ) (bound : ℕ) → ((i : ℕ) → i < length counts → slice_index counts i ≡ count_of i)
    → filter passes (by_count counts bound) ≡ passing_by_count passes count_of (length counts) bound
filter-by_count passes count_of counts bound same =
    filter-flat_map passes (with_count counts) (range_with_len 0 bound)
    ∙ flat_map_agree _ _
    (λ count. filter-filter (λ i. slice_index counts i == count) passes (range_with_len 0 (length counts))
    ∙ filter_agree_within _ _ 0 (length counts) (λ i low high. ap (λ c. passes i && (c == count)) (same i (omega arith))))
    (range_with_len 0 bound)

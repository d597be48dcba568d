-- A list in the order of a key is, for each key from 0 up, its elements with that key.
use Rattle.std.proofs.Common.{◌≡◌, ℕ, zero, suc, ◌+◌, ◌<◌, ◌≤◌, true, false, ◌==◌, nat_lt, List, [], ◌∷◌, ◌++◌, length, get_or, slice_index, filter, add-one, refl, sym, ap, subst, ◌∙◌, arith, inl, inr, suc-le-suc, zero-le, nat_cmp, is_lt}
use Rattle.std.proofs.lemmas.Bool.{cond-true, cond-false, cases_order, lt-ltb, le-ltb, eq-eqb, ne_eqb, eqb-true}
use Rattle.std.proofs.lemmas.Bool.Decides.{nat_tests}
use Rattle.std.proofs.lemmas.Grind.{flat_map-append}
use Rattle.std.proofs.lemmas.List.{append-nil}
use Rattle.std.proofs.lemmas.List.Elements.{filter_agree, filter_passes, All-head, All-tail}
use Rattle.std.specs.List.{All, flat_map, range_with_len}
use Rattle.std.proofs.lemmas.List.FromFn.{length-range_with_len, get_or-range_with_len}
use Rattle.std.proofs.lemmas.List.Sorted.{All-permutation, ties_still_rise}
use Rattle.std.specs.List.Sorted.{ties, IsNonDecreasingBy, IsPermutation, IsSorted, IsSortedByKey, IsStableByKey}
use Rattle.std.specs.Ordering.{ordering_then}
use Rattle.part_picker.specs.OrderLaws.{flat_map_agree}

pub range_with_len-more : (a n j : ℕ) → a + n ≡ j → range_with_len a (suc n) ≡ range_with_len a n ++ j ∷ []
range_with_len-more a zero j e = ap (λ k. k ∷ []) (omega arith)
range_with_len-more a (suc n) j e = ap (λ l. a ∷ l) (range_with_len-more (a + 1) n j (omega arith))

pub range_push : (n : ℕ) → range_with_len 0 (n + 1) ≡ range_with_len 0 n ++ n ∷ []
range_push n = ap (range_with_len 0) (add-one n) ∙ range_with_len-more 0 n n (omega arith)

-- all counts are below a bound, so those of a permutation of the numbers are
pub all_below : (counts : List ℕ) (bound : ℕ) (ys : List ℕ) → IsPermutation (range_with_len 0 (length counts)) ys → All (λ count. count < bound) counts → All (λ i. slice_index counts i < bound) ys
all_below counts bound ys moved all =
    All-permutation (λ i. slice_index counts i < bound) (range_with_len 0 (length counts)) ys moved
    (λ k d lt.
    let in_range : k < length counts = omega (arith, length-range_with_len 0 (length counts)) in
    let number : get_or (range_with_len 0 (length counts)) k d ≡ k = omega (arith, get_or-range_with_len 0 (length counts) k d in_range) in
    rw number (all k 0 in_range))

module _ (key : ℕ → ℕ) where
  abbrev AreAtLeast : ℕ → List ℕ → Type 0
  AreAtLeast n [] = Unit {0}
  AreAtLeast n (y ∷ ys) = (n ≤ key y) × AreAtLeast n ys

  abbrev Rises : List ℕ → Type 0
  Rises [] = Unit {0}
  Rises (y ∷ ys) = AreAtLeast (key y) ys × Rises ys

  AreAtLeast-at : (n : ℕ) (ys : List ℕ) → ((j : ℕ) → j < length ys → n ≤ key (get_or ys j 0)) → AreAtLeast n ys
  AreAtLeast-at n [] h = tt
  AreAtLeast-at n (y ∷ ys) h = (h zero (suc-le-suc zero-le), AreAtLeast-at n ys (λ j lt. h (suc j) (suc-le-suc lt)))

  Rises-from_sort : (ys : List ℕ) → IsNonDecreasingBy key ys → Rises ys
  Rises-from_sort [] h = tt
  Rises-from_sort (y ∷ ys) h = (
    AreAtLeast-at (key y) ys (λ j lt. h zero (suc j) 0 zero-le (suc-le-suc lt)),
    Rises-from_sort ys (λ i j d le lt. h (suc i) (suc j) d (suc-le-suc le) (suc-le-suc lt)),
  )

  abbrev below : ℕ → List ℕ → List ℕ
  below b ys = filter (λ y. nat_lt (key y) b) ys

  abbrev with_key : ℕ → List ℕ → List ℕ
  with_key k ys = filter (λ y. key y == k) ys

  below-none : (b : ℕ) (ys : List ℕ) → AreAtLeast b ys → below b ys ≡ []
  below-none b [] h = refl
  below-none b (y ∷ ys) h = cond-false _ _ _ (le-ltb (key y) b h.0) ∙ below-none b ys h.1

  AreAtLeast-le : (n m : ℕ) (ys : List ℕ) → n ≤ m → AreAtLeast m ys → AreAtLeast n ys
  AreAtLeast-le n m [] le h = tt
  AreAtLeast-le n m (y ∷ ys) le h = let first = h.0 in (omega arith, AreAtLeast-le n m ys le h.1)

  below-suc : (b : ℕ) (ys : List ℕ) → Rises ys → below (suc b) ys ≡ below b ys ++ with_key b ys
  below-suc b [] h = refl
  below-suc b (y ∷ ys) h =
      let rest = below-suc b ys h.1 in
      elim (cases_order (key y) b) [
        | inl same ↦
            let none = below-none b ys (AreAtLeast-le b (key y) ys (omega arith) h.0) in
            cond-true _ _ _ (lt-ltb (key y) (suc b) (omega arith))
            ∙ ap (λ l. y ∷ l) (rest ∙ ap (λ l. l ++ with_key b ys) none)
            ∙ sym (ap (λ l. l ++ with_key b (y ∷ ys)) (cond-false _ _ _ (le-ltb (key y) b (omega arith)) ∙ none) ∙ cond-true _ _ _ (eq-eqb (key y) b same))
        | inr (inl lt) ↦
            cond-true _ _ _ (lt-ltb (key y) (suc b) (omega arith))
            ∙ ap (λ l. y ∷ l) rest
            ∙ sym (ap (λ l. l ++ with_key b (y ∷ ys)) (cond-true _ _ _ (lt-ltb (key y) b lt)) ∙ ap (λ l. y ∷ (below b ys ++ l)) (cond-false _ _ _ (ne_eqb (key y) b (λ e. omega arith))))
        | inr (inr gt) ↦
            cond-false _ _ _ (le-ltb (key y) (suc b) (omega arith))
            ∙ rest
            ∙ sym (ap (λ l. l ++ with_key b (y ∷ ys)) (cond-false _ _ _ (le-ltb (key y) b (omega arith))) ∙ ap (λ l. below b ys ++ l) (cond-false _ _ _ (ne_eqb (key y) b (λ e. omega arith))))
      ]

  below-zero : (ys : List ℕ) → below 0 ys ≡ []
  below-zero [] = refl
  below-zero (y ∷ ys) = cond-false _ _ _ (le-ltb (key y) 0 zero-le) ∙ below-zero ys

  below-all : (b : ℕ) (ys : List ℕ) → All (λ y. key y < b) ys → below b ys ≡ ys
  below-all b [] h = refl
  below-all b (y ∷ ys) h =
      cond-true _ _ _ (lt-ltb (key y) b (All-head (λ y. key y < b) y ys h))
      ∙ ap (λ l. y ∷ l) (below-all b ys (All-tail (λ y. key y < b) y ys h))

  below-by_key : (b : ℕ) (ys : List ℕ) → Rises ys → flat_map (λ k. with_key k ys) (range_with_len 0 b) ≡ below b ys
  below-by_key zero ys h = sym (below-zero ys)
  below-by_key (suc b) ys h =
      let f = λ (k : ℕ). with_key k ys in
      ap (flat_map f) (range_with_len-more 0 b b (omega arith))
      ∙ flat_map-append f (range_with_len 0 b) (b ∷ [])
      ∙ ap (λ l. flat_map f (range_with_len 0 b) ++ l) (append-nil (f b))
      ∙ ap (λ l. l ++ f b) (below-by_key b ys h)
      ∙ sym (below-suc b ys h)

  ties_at : (x y : ℕ) → ties (λ a b. is_lt (nat_cmp (key a) (key b))) x y ≡ (key y == key x)
  ties_at x y = grind (arith, nat_tests)

  -- an element with the key shows what a stable sort keeps of the key
  kept_at : (k w : ℕ) (xs ys : List ℕ) → IsStableByKey key nat_cmp xs ys → key w ≡ k → with_key k ys ≡ with_key k xs
  kept_at k w xs ys stable at =
      let same : (y : ℕ) → ties (λ a b. is_lt (nat_cmp (key a) (key b))) w y ≡ (key y == k) = λ y. ties_at w y ∙ ap (λ j. key y == j) at in
      sym (filter_agree _ _ same ys) ∙ stable w ∙ filter_agree _ _ same xs

  found : (k w : ℕ) (ws ys : List ℕ) → with_key k ys ≡ w ∷ ws → key w ≡ k
  found k w ws ys e =
      eqb-true (key w) k (All-head (λ y. (key y == k) ≡ true) w ws (subst_all e (filter_passes (λ y. key y == k) ys)))
    where
      subst_all : {l m : List ℕ} → l ≡ m → All (λ y. (key y == k) ≡ true) l → All (λ y. (key y == k) ≡ true) m
      subst_all e h = subst (All (λ y. (key y == k) ≡ true)) e h

  with_key-stable : (k : ℕ) (xs ys : List ℕ) → IsStableByKey key nat_cmp xs ys → with_key k ys ≡ with_key k xs
  with_key-stable k xs ys stable = by_cases (with_key k ys) (with_key k xs) refl refl
    where
      by_cases : (l m : List ℕ) → with_key k ys ≡ l → with_key k xs ≡ m → with_key k ys ≡ with_key k xs
      by_cases [] [] a b = a ∙ sym b
      by_cases (w ∷ ws) m a b = kept_at k w xs ys stable (found k w ws ys a)
      by_cases [] (w ∷ ws) a b = kept_at k w xs ys stable (found k w ws xs b)

  -- what a stable sort by the key makes of a list
  pub by_key-from_sort : (b : ℕ) (xs ys : List ℕ) → IsNonDecreasingBy key ys → IsStableByKey key nat_cmp xs ys → All (λ y. key y < b) ys
      → ys ≡ flat_map (λ k. with_key k xs) (range_with_len 0 b)
  by_key-from_sort b xs ys sorted stable all =
      sym (below-all b ys all)
      ∙ sym (below-by_key b ys (Rises-from_sort ys sorted))
      ∙ flat_map_agree (λ k. with_key k ys) (λ k. with_key k xs) (λ k. with_key-stable k xs ys stable) (range_with_len 0 b)

module _ (key : ℕ → ℕ) where
  range-rises : (a n : ℕ) → IsSortedByKey (λ i. i) nat_cmp (range_with_len a n)
  range-rises a n k d low lt =
      let l = length-range_with_len a n in
      let here = get_or-range_with_len a n k d (omega arith) in
      let next = get_or-range_with_len a n (k + 1) d (omega arith) in
      grind (arith, nat_tests)

  later : (i j : ℕ) → key j ≤ key i → (key j ≡ key i → j ≤ i) → is_lt (ordering_then (nat_cmp (key i) (key j)) (nat_cmp i j)) ≡ false
  later i j up tie = grind (arith, nat_tests)

  -- and that list ascends by the key, and where keys are equal by the numbers
  pub ascends-from_sort : (n : ℕ) (ys : List ℕ) → IsNonDecreasingBy key ys → IsStableByKey key nat_cmp (range_with_len 0 n) ys
      → IsSorted (λ i j. ordering_then (nat_cmp (key i) (key j)) (nat_cmp i j)) ys
  ascends-from_sort n ys sorted stable k d low lt =
      later (get_or ys (k + 1) d) (get_or ys k d) (sorted k (k + 1) d (omega arith) lt) (λ same. ties_still_rise (λ i. i) key (range_with_len 0 n) ys (range-rises 0 n) stable k d lt same)

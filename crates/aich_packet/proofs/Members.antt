-- Identifiers that are those of a path, in any order.
use Rattle.std.proofs.Common.{arith, ◌≡◌, ℕ, zero, suc, ◌+◌, ◌<◌, true, false, nat_eq, ◌||◌, List, [], ◌∷◌, ◌++◌, length, get_or, IsPermutation, remove, Some, None, refl, sym, ap, ◌∙◌, inl, inr, eqb-true, eq-eqb, append_assoc}
use Rattle.std.specs.List.{AllByRecursion, IsDistinct}
use Rattle.std.proofs.lemmas.Bool.{cases_Bool, or_parts, or_left, or_right, or_cases}
use Rattle.std.proofs.lemmas.Bool.Decides.{nat_tests}
use Rattle.std.proofs.lemmas.List.Folds.{list_any-append}
use Rattle.std.proofs.lemmas.List.Sorted.{IsPermutation-refl, IsPermutation-cons, IsPermutation-trans, IsPermutation-remove, All-permutation}
use Rattle.std.proofs.lemmas.List.Elements.{All-from_recursion, recursion_from_All}
use Rattle.std.proofs.lemmas.Map.Keys.{IsDistinct-IsPermutation}
use Rattle.aich_packet.specs.Judging.{is_among, first_twice, first_wrong}
use Rattle.aich_packet.proofs.Distinct.{all-map}

-- ---- no identifier stands twice

pub twice-none : (before xs : List ℕ) → first_twice before xs ≡ None → AllByRecursion (λ x. is_among before x ≡ false) xs × IsDistinct nat_eq xs
unfolding IsDistinct
twice-none before [] none = (tt, tt)
twice-none before (x ∷ xs) none =
    elim (cases_Bool (is_among before x)) [
      | inl here ↦ let bad : Some x ≡ None = rw here at none in absurd cc
      | inr new ↦
          let next : first_twice (before ++ x ∷ []) xs ≡ None = rw new at none in
          let more = twice-none (before ++ x ∷ []) xs next in
          let parts : (y : ℕ) → is_among (before ++ x ∷ []) y ≡ false → (is_among before y ≡ false) × (nat_eq x y ≡ false) = pushed before x in (
            (new, all-map (λ y. is_among (before ++ x ∷ []) y ≡ false) (λ y. is_among before y ≡ false) (λ y h. (parts y h).0) xs more.0),
            (all-map (λ y. is_among (before ++ x ∷ []) y ≡ false) (λ y. nat_eq x y ≡ false) (λ y h. (parts y h).1) xs more.0, more.1),
          )
    ]
  where
    pushed : (before : List ℕ) (x y : ℕ) → is_among (before ++ x ∷ []) y ≡ false → (is_among before y ≡ false) × (nat_eq x y ≡ false)
    pushed before x y none =
        let both = or_parts (is_among before y) (nat_eq x y || false) (sym (list_any-append (λ other. nat_eq other y) before (x ∷ [])) ∙ none) in
        (both.0, (or_parts (nat_eq x y) false both.1).0)

pub none-twice : (before xs : List ℕ) → AllByRecursion (λ x. is_among before x ≡ false) xs → IsDistinct nat_eq xs → first_twice before xs ≡ None
unfolding IsDistinct
none-twice before [] new each = refl
none-twice before (x ∷ xs) new each =
    rw new.0 (none-twice (before ++ x ∷ []) xs (both xs new.1 each.0) each.1)
  where
    both : (ys : List ℕ) → AllByRecursion (λ y. is_among before y ≡ false) ys → AllByRecursion (λ y. nat_eq x y ≡ false) ys → AllByRecursion (λ y. is_among (before ++ x ∷ []) y ≡ false) ys
    both [] old apart = tt
    both (y ∷ ys) old apart =
        (list_any-append (λ other. nat_eq other y) before (x ∷ []) ∙ rw (old.0, apart.0) refl, both ys old.1 apart.1)

pub none-among : (xs : List ℕ) → AllByRecursion (λ x. is_among [] x ≡ false) xs
none-among [] = tt
none-among (x ∷ xs) = (refl, none-among xs)

-- ---- each is on the path

pub wrong-none : (on xs : List ℕ) → first_wrong on xs ≡ None → AllByRecursion (λ x. is_among on x ≡ true) xs
wrong-none on [] none = tt
wrong-none on (x ∷ xs) none =
    elim (cases_Bool (is_among on x)) [
      | inl here ↦ let next : first_wrong on xs ≡ None = rw here at none in (here, wrong-none on xs next)
      | inr new ↦ let bad : Some x ≡ None = rw new at none in absurd cc
    ]

pub none-wrong : (on xs : List ℕ) → AllByRecursion (λ x. is_among on x ≡ true) xs → first_wrong on xs ≡ None
none-wrong on [] each = refl
none-wrong on (x ∷ xs) each = rw each.0 (none-wrong on xs each.1)

-- ---- the same members

among-place : (xs : List ℕ) (x : ℕ) → is_among xs x ≡ true → (i : ℕ) × (i < length xs) × (get_or xs i x ≡ x)
among-place [] x here = absurd cc
among-place (y ∷ ys) x here =
    elim (or_cases (nat_eq y x) (is_among ys x) here) [
      | inl first ↦ (0, omega arith, eqb-true y x first)
      | inr later ↦ let found = among-place ys x later in (suc found.0, omega (arith, found.1), found.2)
    ]

-- without the one at a place, the others are there
among-remove : (xs : List ℕ) (i x y : ℕ) → i < length xs → get_or xs i x ≡ x → nat_eq x y ≡ false → is_among xs y ≡ true → is_among (remove xs i) y ≡ true
among-remove [] i x y below at apart here = absurd (omega arith)
among-remove (z ∷ zs) zero x y below at apart here =
    let other : nat_eq z y ≡ false = ap (λ (w : ℕ). nat_eq w y) at ∙ apart in
    rw other at here
among-remove (z ∷ zs) (suc i) x y below at apart here =
    elim (or_cases (nat_eq z y) (is_among zs y) here) [
      | inl first ↦ or_left (nat_eq z y) (is_among (remove zs i) y) first
      | inr later ↦ or_right (nat_eq z y) (is_among (remove zs i) y) (among-remove zs i x y (omega arith) at apart later)
    ]

length-remove : (xs : List ℕ) (i : ℕ) → i < length xs → length (remove xs i) + 1 ≡ length xs
length-remove [] i below = absurd (omega arith)
length-remove (x ∷ xs) zero below = omega arith
length-remove (x ∷ xs) (suc i) below = omega (arith, length-remove xs i (omega arith))

-- no two equal, all of them on the path and as many as it has: they are the path's in another order
pub permuted : (xs on : List ℕ) → IsDistinct nat_eq xs → AllByRecursion (λ x. is_among on x ≡ true) xs → length xs ≡ length on → IsPermutation on xs
unfolding IsDistinct
permuted [] [] each among same = IsPermutation-refl []
permuted [] (y ∷ ys) each among same = absurd (omega arith)
permuted (x ∷ xs) on each among same =
    let place = among-place on x among.0 in
    let others = still xs place.0 each.0 among.1 place.1 place.2 in
    let rest = permuted xs (remove on place.0) each.1 others (omega (arith, same, length-remove on place.0 place.1)) in
    IsPermutation-trans on (x ∷ remove on place.0) (x ∷ xs)
    (IsPermutation-remove on place.0 x place.1 (sym place.2))
    (IsPermutation-cons x (remove on place.0) xs rest)
  where
    still : (ys : List ℕ) (i : ℕ) → AllByRecursion (λ y. nat_eq x y ≡ false) ys → AllByRecursion (λ y. is_among on y ≡ true) ys → i < length on → get_or on i x ≡ x → AllByRecursion (λ y. is_among (remove on i) y ≡ true) ys
    still [] i apart among below at = tt
    still (y ∷ ys) i apart among below at =
        (among-remove on i x y below at apart.0 among.0, still ys i apart.1 among.1 below at)

-- ---- and back

flips : (x y : ℕ) → nat_eq x y ≡ nat_eq y x
flips x y = grind (arith, nat_tests)

pub permuted-distinct : (on xs : List ℕ) → IsPermutation on xs → IsDistinct nat_eq on → IsDistinct nat_eq xs
permuted-distinct on xs same each = IsDistinct-IsPermutation nat_eq flips on xs same each

itself : (x : ℕ) → nat_eq x x ≡ true
itself x = eq-eqb x x refl

pub each-among : (front xs : List ℕ) → AllByRecursion (λ x. is_among (front ++ xs) x ≡ true) xs
each-among front [] = tt
each-among front (x ∷ xs) = (
  list_any-append (λ other. nat_eq other x) front (x ∷ xs)
      ∙ or_right (is_among front x) (nat_eq x x || is_among xs x) (or_left (nat_eq x x) (is_among xs x) (itself x)),
  moved xs (each-among (front ++ x ∷ []) xs),
)
  where
    moved : (ys : List ℕ) → AllByRecursion (λ y. is_among ((front ++ x ∷ []) ++ xs) y ≡ true) ys → AllByRecursion (λ y. is_among (front ++ x ∷ xs) y ≡ true) ys
    moved ys all = rw append_assoc at all

pub permuted-among : (on xs : List ℕ) → IsPermutation on xs → AllByRecursion (λ x. is_among on x ≡ true) xs
permuted-among on xs same =
    recursion_from_All (λ x. is_among on x ≡ true) xs
    (All-permutation (λ x. is_among on x ≡ true) on xs same
    (All-from_recursion (λ x. is_among on x ≡ true) on (each-among [] on)))

-- Lists of which no two members are equal.
use Rattle.std.proofs.Common.{arith, ◌≡◌, ℕ, zero, suc, ◌<◌, false, nat_eq, List, [], ◌∷◌, ◌++◌, length, get_or, sym, subst, ne_eqb}
use Rattle.std.specs.List.{AllByRecursion, IsDistinct}

-- ---- facts of each member

pub all-append : {X : Type 0} (P : X → Type 0) (xs ys : List X) → AllByRecursion P xs → AllByRecursion P ys → AllByRecursion P (xs ++ ys)
all-append P [] ys left right = right
all-append P (x ∷ xs) ys left right = (left.0, all-append P xs ys left.1 right)

pub all-front : {X : Type 0} (P : X → Type 0) (xs ys : List X) → AllByRecursion P (xs ++ ys) → AllByRecursion P xs
all-front P [] ys all = tt
all-front P (x ∷ xs) ys all = (all.0, all-front P xs ys all.1)

pub all-behind : {X : Type 0} (P : X → Type 0) (xs ys : List X) → AllByRecursion P (xs ++ ys) → AllByRecursion P ys
all-behind P [] ys all = all
all-behind P (x ∷ xs) ys all = all-behind P xs ys all.1

pub all-map : {X : Type 0} (P Q : X → Type 0) → ((x : X) → P x → Q x) → (xs : List X) → AllByRecursion P xs → AllByRecursion Q xs
all-map P Q f [] all = tt
all-map P Q f (x ∷ xs) all = (f x all.0, all-map P Q f xs all.1)

pub all-at : {X : Type 0} (P : X → Type 0) (xs : List X) (i : ℕ) (d : X) → AllByRecursion P xs → i < length xs → P (get_or xs i d)
all-at P [] i d all below = absurd (omega arith)
all-at P (x ∷ xs) zero d all below = all.0
all-at P (x ∷ xs) (suc i) d all below = all-at P xs i d all.1 (omega arith)

-- ---- lists put together

pub distinct-cons : (P Q : ℕ → Type 0) → ((x : ℕ) → P x → Q x → ⊥) → (x : ℕ) (xs : List ℕ) → P x → AllByRecursion Q xs → IsDistinct nat_eq xs → IsDistinct nat_eq (x ∷ xs)
unfolding IsDistinct
distinct-cons P Q apart x xs here there each =
    (all-map Q (λ y. nat_eq x y ≡ false) (λ y q. ne_eqb x y (λ e. apart x here (subst Q (sym e) q))) xs there, each)

pub distinct-append : (P Q : ℕ → Type 0) → ((x : ℕ) → P x → Q x → ⊥) → (xs ys : List ℕ) → AllByRecursion P xs → AllByRecursion Q ys
    → IsDistinct nat_eq xs → IsDistinct nat_eq ys → IsDistinct nat_eq (xs ++ ys)
unfolding IsDistinct
distinct-append P Q apart [] ys left right each others = others
distinct-append P Q apart (x ∷ xs) ys left right each others = (
  all-append (λ y. nat_eq x y ≡ false) xs ys each.0
      (all-map Q (λ y. nat_eq x y ≡ false) (λ y q. ne_eqb x y (λ e. apart x left.0 (subst Q (sym e) q))) ys right),
  distinct-append P Q apart xs ys left.1 right each.1 others,
)

pub distinct-one : (x : ℕ) → IsDistinct nat_eq (x ∷ [])
unfolding IsDistinct
distinct-one x = (tt, tt)

pub distinct-none : IsDistinct nat_eq []
unfolding IsDistinct
distinct-none = tt

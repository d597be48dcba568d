-- One number alone is the next, and its rank is 1.
use Rattle.std.proofs.Common.{◌≡◌, ℕ, ◌==◌, ◌||◌, Bool, true, false, cond, not, subst, T, List, [], ◌∷◌, nat_cmp, is_lt, ap, refl, sym, ◌∙◌, arith}
use Rattle.std.proofs.lemmas.Bool.{eqb-true}
use Rattle.std.proofs.lemmas.Bool.Decides.{nat_tests}
use Rattle.std.specs.List.{list_any}
use Rattle.std.specs.Ordering.{ordering_then}
use Rattle.std.specs.Prelude.{◌↔◌, Option, Some, None, IsTrue, is_none, unwrap_or, option_map, find}
use Rattle.upload_queue.specs.Book.{Book, entry_of}
use Rattle.upload_queue.specs.Order.{comes_before, is_first, is_next, rank_of, rank, score}
use Rattle.upload_queue.specs.declared.waiting.Waiting.{Waiting}
use Rattle.upload_queue.proofs.Finds.{any-count, find_passes}

neither : (a b : Bool) → (a || b) ≡ false → (a ≡ false) × (b ≡ false)
neither true b e = absurd (subst (λ k. T (not k)) (sym e) tt)
neither false b e = (refl, e)

found_step : {X : Type 0} (q : X → Bool) (y x : X) (o : Option X) (b : Bool) → q y ≡ false → (o ≡ Some x → q x ≡ false) → cond b (Some y) o ≡ Some x → q x ≡ false
found_step q y x o true fails rest e = subst (λ z. q z ≡ false) (ap (λ k. unwrap_or k y) e) fails
found_step q y x o false fails rest e = rest e

-- where no element passes, the one that is found doesn't
found_fails : {X : Type 0} (p q : X → Bool) (xs : List X) (x : X) → list_any q xs ≡ false → find p xs ≡ Some x → q x ≡ false
found_fails p q [] x none e = absurd (subst (λ k. T (is_none k)) e tt)
found_fails p q (y ∷ xs) x none e =
    let fails = neither (q y) (list_any q xs) none in
    found_step q y x (find p xs) (p y) fails.0 (found_fails p q xs x fails.1) e

holder : (first : Waiting → Bool) (o : Option Waiting) → unwrap_or (option_map first o) false ≡ true → (entry : Waiting) × (o ≡ Some entry) × (first entry ≡ true)
holder first None e = absurd (subst T (sym e) tt)
holder first (Some entry) e = (entry, refl, e)

same_number : (s t a b n m : ℕ) → is_lt (ordering_then (nat_cmp s t) (ordering_then (nat_cmp b a) (nat_cmp m n))) ≡ false
    → is_lt (ordering_then (nat_cmp t s) (ordering_then (nat_cmp a b) (nat_cmp n m))) ≡ false → n ≡ m
same_number s t a b n m one other = grind (arith, nat_tests)

not_true : (b : Bool) → not b ≡ true → b ≡ false
not_true true e = sym e
not_true false e = refl

pub next_is_alone : (book : Book) (now one other : ℕ) → IsTrue (is_next book now one) → IsTrue (is_next book now other) → one ≡ other
next_is_alone book now one other first second =
    let a = holder (is_first book now) (entry_of book one) first in
    let b = holder (is_first book now) (entry_of book other) second in
    let before = found_fails _ (λ entry. comes_before book now entry a.0) book.waiting b.0 (not_true _ a.2) b.1 in
    let behind = found_fails _ (λ entry. comes_before book now entry b.0) book.waiting a.0 (not_true _ b.2) a.1 in
    let same = same_number (score book now a.0) (score book now b.0) a.0.since b.0.since a.0.number b.0.number before behind in
    let here = eqb-true _ _ (find_passes (λ (entry : Waiting). entry.number == one) book.waiting a.0 a.1) in
    let there = eqb-true _ _ (find_passes (λ (entry : Waiting). entry.number == other) book.waiting b.0 b.1) in
    sym here ∙ same ∙ there

some_one : (count : Waiting → ℕ) (first : Waiting → Bool) → ((entry : Waiting) → first entry ≡ (count entry == 1)) → (o : Option Waiting)
    → (unwrap_or (option_map first o) false ≡ true) ↔ (option_map count o ≡ Some 1)
some_one count first same None = (λ e. absurd (subst T (sym e) tt), λ e. absurd (subst (λ k. T (is_none k)) e tt))
some_one count first same (Some entry) = (
  λ e. ap Some (eqb-true _ _ (sym (same entry) ∙ e)),
  λ e. same entry ∙ ap (λ k. unwrap_or k 0 == 1) e,
)

pub next_has_rank_one : (book : Book) (now number : ℕ) → IsTrue (is_next book now number) ↔ (rank book now number ≡ Some 1)
next_has_rank_one book now number =
    some_one (rank_of book now) (is_first book now) (λ entry. any-count (λ other. comes_before book now other entry) book.waiting) (entry_of book number)

-- A book stays sound: at most four slots, and each number once.
use Rattle.std.proofs.Common.{◌≡◌, ◌≢◌, ℕ, ◌+◌, ◌<◌, ◌≤◌, ◌==◌, Bool, true, false, cond, not, subst, List, [], ◌∷◌, ◌++◌, length, length-append, ap, refl, ◌∙◌, arith}
use Rattle.std.proofs.lemmas.Bool.{eqb-true}
use Rattle.std.proofs.lemmas.Bool.Decides.{nat_tests}
use Rattle.std.proofs.lemmas.List.Sums.{length-filter, count_by-le-length}
use Rattle.std.specs.List.{list_any}
use Rattle.std.specs.Prelude.{None, is_some, find, filter, count_by}
use Rattle.upload_queue.specs.Book.{IsSound, times}
use Rattle.upload_queue.specs.declared.waiting.Waiting.{Waiting}
use Rattle.upload_queue.proofs.Filters.{count_added, count_kept, count_dropped}
use Rattle.upload_queue.proofs.Finds.{any-count, any-find}

-- the tests of two numbers
pub kept_apart : (k n m : ℕ) → n ≢ m → (k == n) ≡ true → not (k == m) ≡ true
kept_apart k n m apart is = grind (arith, nat_tests)

pub dropped_same : (k n : ℕ) → not (k == n) ≡ true → (k == n) ≡ false
dropped_same k n is = grind (arith, nat_tests)

pub none_counted : {X : Type 0} (p : X → Bool) (xs : List X) → list_any p xs ≡ false → count_by p xs ≡ 0
none_counted p xs none =
    let same = any-count p xs in
    grind (arith, nat_tests)

pub none_found : {X : Type 0} (p : X → Bool) (xs : List X) → find p xs ≡ None → count_by p xs ≡ 0
none_found p xs none = none_counted p xs (any-find p xs ∙ ap is_some none)

module _ (slots : List ℕ) (waiting : List Waiting) (sound : IsSound slots waiting) where
  -- an entry behind the others, of a number that isn't in
  module _ (entry : Waiting) (out : list_any (λ other. other == entry.number) slots ≡ false) (none : find (λ (other : Waiting). other.number == entry.number) waiting ≡ None) where
    once_entered : (number : ℕ) (b : Bool) → (entry.number == number) ≡ b → times slots (waiting ++ entry ∷ []) number ≤ 1
    once_entered number true is =
        let same = eqb-true _ _ is in
        let slot = subst (λ n. count_by (λ other. other == n) slots ≡ 0) same (none_counted _ slots out) in
        let waits = subst (λ n. count_by (λ (other : Waiting). other.number == n) waiting ≡ 0) same (none_found _ waiting none) in
        let added = count_added (λ (other : Waiting). other.number == number) waiting entry ∙ ap (λ b. count_by (λ (other : Waiting). other.number == number) waiting + cond b 1 0) is in
        omega arith
    once_entered number false is =
        let added = count_added (λ (other : Waiting). other.number == number) waiting entry ∙ ap (λ b. count_by (λ (other : Waiting). other.number == number) waiting + cond b 1 0) is in
        let before = sound.once number in
        omega arith

    pub IsSound-entered : IsSound slots (waiting ++ entry ∷ [])
    IsSound-entered = record { four = sound.four; once = λ number. once_entered number (entry.number == number) refl }

  -- one of those who wait goes to the slots
  module _ (granted : ℕ) (free : length slots < 4) (out : list_any (λ other. other == granted) slots ≡ false) where
    once_granted : (number : ℕ) (b : Bool) → (granted == number) ≡ b → times (slots ++ granted ∷ []) (filter (λ (entry : Waiting). not (entry.number == granted)) waiting) number ≤ 1
    once_granted number true is =
        let same = eqb-true _ _ is in
        let slot = subst (λ n. count_by (λ other. other == n) slots ≡ 0) same (none_counted _ slots out) in
        let added = count_added (λ (other : ℕ). other == number) slots granted ∙ ap (λ b. count_by (λ (other : ℕ). other == number) slots + cond b 1 0) is in
        let gone = subst (λ n. count_by (λ (entry : Waiting). entry.number == n) (filter (λ (entry : Waiting). not (entry.number == granted)) waiting) ≡ 0) same
        (count_dropped (λ (entry : Waiting). entry.number == granted) (λ (entry : Waiting). not (entry.number == granted)) (λ entry is. dropped_same entry.number granted is) waiting) in
        omega arith
    once_granted number false is =
        let apart : number ≢ granted = λ e. grind (arith, nat_tests) in
        let added = count_added (λ (other : ℕ). other == number) slots granted ∙ ap (λ b. count_by (λ (other : ℕ). other == number) slots + cond b 1 0) is in
        let kept = count_kept (λ (entry : Waiting). entry.number == number) (λ (entry : Waiting). not (entry.number == granted)) (λ entry is. kept_apart entry.number number granted apart is) waiting in
        let before = sound.once number in
        omega arith

    pub IsSound-granted : IsSound (slots ++ granted ∷ []) (filter (λ (entry : Waiting). not (entry.number == granted)) waiting)
    IsSound-granted = record { four = let l = length-append slots (granted ∷ []) in omega arith; once = λ number. once_granted number (granted == number) refl }

  -- a number goes
  module _ (gone : ℕ) where
    once_left : (number : ℕ) (b : Bool) → (gone == number) ≡ b → times (filter (λ other. not (other == gone)) slots) (filter (λ (entry : Waiting). not (entry.number == gone)) waiting) number ≤ 1
    once_left number true is =
        let same = eqb-true _ _ is in
        let slot = subst (λ n. count_by (λ other. other == n) (filter (λ other. not (other == gone)) slots) ≡ 0) same
        (count_dropped (λ other. other == gone) (λ other. not (other == gone)) (λ other is. dropped_same other gone is) slots) in
        let waits = subst (λ n. count_by (λ (entry : Waiting). entry.number == n) (filter (λ (entry : Waiting). not (entry.number == gone)) waiting) ≡ 0) same
        (count_dropped (λ (entry : Waiting). entry.number == gone) (λ (entry : Waiting). not (entry.number == gone)) (λ entry is. dropped_same entry.number gone is) waiting) in
        omega arith
    once_left number false is =
        let apart : number ≢ gone = λ e. grind (arith, nat_tests) in
        let slot = count_kept (λ other. other == number) (λ other. not (other == gone)) (λ other is. kept_apart other number gone apart is) slots in
        let waits = count_kept (λ (entry : Waiting). entry.number == number) (λ (entry : Waiting). not (entry.number == gone)) (λ entry is. kept_apart entry.number number gone apart is) waiting in
        let before = sound.once number in
        omega arith

    pub IsSound-left : IsSound (filter (λ other. not (other == gone)) slots) (filter (λ (entry : Waiting). not (entry.number == gone)) waiting)
    IsSound-left = record { four = let at_most = count_by-le-length (λ other. not (other == gone)) slots in let l = length-filter (λ other. not (other == gone)) slots in let before = sound.four in omega arith; once = λ number. once_left number (gone == number) refl }

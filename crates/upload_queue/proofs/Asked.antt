-- What an ask comes to, by the rank of the number's entry.
use Rattle.std.proofs.Common.{◌≡◌, ℕ, ◌<◌, ◌==◌, Bool, true, false, cond, ◌&&◌, ◌||◌, nat_lt, List, [], ◌∷◌, ◌++◌, length, ap, refl, ◌∙◌, arith}
use Rattle.std.proofs.lemmas.Bool.Decides.{nat_tests}
use Rattle.std.specs.Prelude.{Some, IsTrue, unwrap_or, option_map}
use Rattle.upload_queue.specs.Book.{Book, has_slot, entry_of, is_waiting}
use Rattle.upload_queue.specs.Order.{comes_before, is_first, rank_of, rank}
use Rattle.upload_queue.specs.Slots.{asked, entered, granted, is_granted}
use Rattle.upload_queue.specs.declared.waiting.Waiting.{Waiting}
use Rattle.upload_queue.proofs.Finds.{any-count}

-- to come in changes no slot
pub slots-entered : (book : Book) (number : ℕ) (user : List ℕ) (now : ℕ) → (entered book number user now).slots ≡ book.slots
slots-entered book number user now = step (has_slot book number || is_waiting book number)
  where
    entry : Waiting
    entry = record { number = number; user = user; since = now }

    step : (b : Bool) → (cond b book (record book { waiting = book.waiting ++ entry ∷ [] })).slots ≡ book.slots
    step true = refl
    step false = refl

-- a number that waits is granted a slot where one is free and its rank is 1
pub is_granted-rank : (book : Book) (now number : ℕ) (entry : Waiting) → entry_of book number ≡ Some entry
    → is_granted book now number ≡ (nat_lt (length book.slots) 4 && (rank_of book now entry == 1))
is_granted-rank book now number entry found =
    ap (λ b. nat_lt (length book.slots) 4 && b) (ap (λ o. unwrap_or (option_map (is_first book now) o) false) found ∙ any-count (λ other. comes_before book now other entry) book.waiting)

module _ (book : Book) (now number : ℕ) (entry : Waiting) (out : has_slot book number ≡ false) (found : entry_of book number ≡ Some entry) where
  pub ask_granted : rank_of book now entry ≡ 1 → length book.slots < 4 → IsTrue (has_slot book number || is_granted book now number) × (granted book number ≡ asked book now number)
  ask_granted first free =
      let given : is_granted book now number ≡ true = is_granted-rank book now number entry found ∙ grind (arith, nat_tests) in
      (rw (out, given) refl, rw (out, given) refl)

  pub ask_ranked : (nat_lt (length book.slots) 4 && (rank_of book now entry == 1)) ≡ false
      → ((has_slot book number || is_granted book now number) ≡ false) × (rank book now number ≡ Some (rank_of book now entry)) × (book ≡ asked book now number)
  ask_ranked later =
      let given : is_granted book now number ≡ false = is_granted-rank book now number entry found ∙ later in
      (rw (out, given) refl, ap (option_map (rank_of book now)) found, rw (out, given) refl)

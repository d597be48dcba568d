-- What the calls change of a number and of the others.
use Rattle.std.proofs.Common.{◌≡◌, ◌≢◌, ℕ, ◌==◌, ◌||◌, ◌&&◌, Bool, true, false, cond, not, List, [], ◌∷◌, ◌++◌, ap, refl, ◌∙◌, arith}
use Rattle.std.proofs.lemmas.Bool.Decides.{nat_tests}
use Rattle.std.specs.Prelude.{is_some}
use Rattle.upload_queue.specs.Book.{Book, KeepsOthers, IsOut, has_slot, is_waiting}
use Rattle.upload_queue.specs.Slots.{asked, entered, granted, is_granted, left}
use Rattle.upload_queue.specs.declared.waiting.Waiting.{Waiting}
use Rattle.upload_queue.proofs.Filters.{any_added, any_here, any_kept, any_dropped, find_as_before, find_kept, find_dropped}
use Rattle.upload_queue.proofs.Finds.{itself}
use Rattle.upload_queue.proofs.Sound.{kept_apart, dropped_same}

pub KeepsOthers-same : (book : Book) (number : ℕ) → KeepsOthers book book number
KeepsOthers-same book number = record { slots = λ other apart. refl; waiting = λ other apart. refl }

pub KeepsOthers-then : (a b c : Book) (number : ℕ) → KeepsOthers a b number → KeepsOthers b c number → KeepsOthers a c number
KeepsOthers-then a b c number first second = record {
  slots = λ other apart. second.slots other apart ∙ first.slots other apart;
  waiting = λ other apart. second.waiting other apart ∙ first.waiting other apart;
}

apart_test : (n m : ℕ) → n ≢ m → (m == n) ≡ false
apart_test n m apart = grind (arith, nat_tests)

pub KeepsOthers-entered : (book : Book) (number : ℕ) (user : List ℕ) (now : ℕ) → KeepsOthers book (entered book number user now) number
KeepsOthers-entered book number user now = step (has_slot book number || is_waiting book number)
  where
    entry : Waiting
    entry = record { number = number; user = user; since = now }

    step : (b : Bool) → KeepsOthers book (cond b book (record book { waiting = book.waiting ++ entry ∷ [] })) number
    step true = KeepsOthers-same book number
    step false = record {
      slots = λ other apart. refl;
      waiting = λ other apart. find_as_before (λ (entry : Waiting). entry.number == other) book.waiting (record { number = number; user = user; since = now }) (apart_test other number apart);
    }

pub KeepsOthers-granted : (book : Book) (number : ℕ) → KeepsOthers book (granted book number) number
KeepsOthers-granted book number = record {
  slots = λ other apart. any_added (λ k. k == other) book.slots number (apart_test other number apart);
  waiting = λ other apart. find_kept (λ (entry : Waiting). entry.number == other) (λ (entry : Waiting). not (entry.number == number)) (λ entry is. kept_apart entry.number other number apart is) book.waiting;
}

pub KeepsOthers-left : (book : Book) (number : ℕ) → KeepsOthers book (left book number) number
KeepsOthers-left book number = record {
  slots = λ other apart. any_kept (λ k. k == other) (λ k. not (k == number)) (λ k is. kept_apart k other number apart is) book.slots;
  waiting = λ other apart. find_kept (λ (entry : Waiting). entry.number == other) (λ (entry : Waiting). not (entry.number == number)) (λ entry is. kept_apart entry.number other number apart is) book.waiting;
}

pub IsOut-left : (book : Book) (number : ℕ) → IsOut (left book number) number
IsOut-left book number = record {
  slot = any_dropped (λ k. k == number) (λ k. not (k == number)) (λ k is. dropped_same k number is) book.slots;
  waits = ap is_some (find_dropped (λ (entry : Waiting). entry.number == number) (λ (entry : Waiting). not (entry.number == number)) (λ entry is. dropped_same entry.number number is) book.waiting);
}

pub has_slot-granted : (book : Book) (number : ℕ) → has_slot (granted book number) number ≡ true
has_slot-granted book number = any_here (λ k. k == number) book.slots number (itself number)

pub KeepsOthers-asked : (book : Book) (now number : ℕ) → KeepsOthers book (asked book now number) number
KeepsOthers-asked book now number = step (not (has_slot book number) && is_granted book now number)
  where
    step : (b : Bool) → KeepsOthers book (cond b (granted book number) book) number
    step true = KeepsOthers-granted book number
    step false = KeepsOthers-same book number

-- an ask touches its own number alone
pub KeepsOthers-ask : (book : Book) (number : ℕ) (user : List ℕ) (now : ℕ) → KeepsOthers book (asked (entered book number user now) now number) number
KeepsOthers-ask book number user now =
    let came = entered book number user now in
    KeepsOthers-then book came (asked came now number) number (KeepsOthers-entered book number user now) (KeepsOthers-asked came now number)

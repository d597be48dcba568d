-- What the calls make of a book's slots and of those who wait.
use Rattle.std.specs.Prelude.{◌≡◌, ℕ, Bool, not, ◌==◌, ◌||◌, ◌&&◌, nat_lt, true, false, IsTrue, List, [], ◌∷◌, ◌++◌, length, Some, filter, if◌then◌else◌}
use Rattle.upload_queue.specs.Book.{Book, has_slot, is_waiting}
use Rattle.upload_queue.specs.Order.{is_next, rank}
use Rattle.upload_queue.specs.declared.book.Place.{Place}
use Rattle.upload_queue.specs.declared.book.Place.TheVariants.{Granted, Rank}
use Rattle.upload_queue.specs.declared.waiting.Waiting.{Waiting}

-- the book once the number has come in: where it has no slot and doesn't wait, it waits from now on
abbrev pub entered : Book → ℕ → List ℕ → ℕ → Book
entered book number user now =
    let entry : Waiting = record { number = number; user = user; since = now } in
    if has_slot book number || is_waiting book number then book else record book { waiting = book.waiting ++ entry ∷ [] }

-- a number that is in gets a slot where it is the next and one is free
abbrev pub is_granted : Book → ℕ → ℕ → Bool
is_granted book now number = nat_lt (length book.slots) 4 && is_next book now number

-- without a number
abbrev pub left : Book → ℕ → Book
left book number = record book {
  slots = filter (λ other. not (other == number)) book.slots;
  waiting = filter (λ entry. not (entry.number == number)) book.waiting;
}

-- with a slot for a number that waited
abbrev pub granted : Book → ℕ → Book
granted book number = record book {
  slots = book.slots ++ number ∷ [];
  waiting = filter (λ entry. not (entry.number == number)) book.waiting;
}

-- what an ask makes of a book that the number is in
abbrev pub asked : Book → ℕ → ℕ → Book
asked book now number = if not (has_slot book number) && is_granted book now number then granted book number else book

-- what an ask answers, of a book that the number is in
abbrev pub Answers : Book → ℕ → ℕ → Place → Type 0
Answers book now number Granted = IsTrue (has_slot book number || is_granted book now number)
Answers book now number (Rank r) =
    ((has_slot book number || is_granted book now number) ≡ false) × (rank book now number ≡ Some r)

-- the number has a slot, or waits, as it was answered
abbrev pub IsIn : Book → ℕ → Place → Type 0
IsIn book number Granted = has_slot book number ≡ true
IsIn book number (Rank r) = (has_slot book number ≡ false) × (is_waiting book number ≡ true)

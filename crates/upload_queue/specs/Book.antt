-- What an `UploadBook` is seen as.
use Rattle.std.specs.Prelude.{◌≡◌, ◌≢◌, ℕ, ◌+◌, ◌≤◌, Bool, false, List, [], ◌==◌, length, count_by, Option, is_some, find}
use Rattle.std.specs.List.{list_any}
use Rattle.upload_queue.specs.Bytes.{Sums, bytes_of}
use Rattle.upload_queue.specs.Credit as credit
use Rattle.upload_queue.specs.declared.waiting.Waiting.{Waiting}

pub record Book : Type 0 where
  -- what each user gave, and what it was given
  pub received : Sums
  pub given : Sums
  -- the numbers that have a slot, and those that wait, as they came
  pub slots : List ℕ
  pub waiting : List Waiting

abbrev pub empty : Book
empty = record { received = []; given = []; slots = []; waiting = [] }

abbrev pub credit_of : Book → List ℕ → ℕ
credit_of book user = credit.credit (bytes_of book.received user) (bytes_of book.given user)

abbrev pub has_slot : Book → ℕ → Bool
has_slot book number = list_any (λ other. other == number) book.slots

-- how a number waits
abbrev pub entry_of : Book → ℕ → Option Waiting
entry_of book number = find (λ entry. entry.number == number) book.waiting

abbrev pub is_waiting : Book → ℕ → Bool
is_waiting book number = is_some (entry_of book number)

-- how often a number has a slot or waits
abbrev pub times : List ℕ → List Waiting → ℕ → ℕ
times slots waiting number = count_by (λ other. other == number) slots + count_by (λ entry. entry.number == number) waiting

-- at most four have a slot, and no number has two slots, waits twice, or has a slot and waits
pub record IsSound (slots : List ℕ) (waiting : List Waiting) : Type 0 where
  pub four : length slots ≤ 4
  pub once : (number : ℕ) → times slots waiting number ≤ 1

abbrev pub IsBook : Book → Type 0
IsBook book = IsSound book.slots book.waiting

-- each other number has a slot, or waits, as before
pub record KeepsOthers (old new : Book) (number : ℕ) : Type 0 where
  pub slots : (other : ℕ) → other ≢ number → has_slot new other ≡ has_slot old other
  pub waiting : (other : ℕ) → other ≢ number → entry_of new other ≡ entry_of old other

-- the number neither has a slot nor waits
pub record IsOut (book : Book) (number : ℕ) : Type 0 where
  pub slot : has_slot book number ≡ false
  pub waits : is_waiting book number ≡ false

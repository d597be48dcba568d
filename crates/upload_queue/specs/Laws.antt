-- What holds of every book.
use Rattle.std.specs.Prelude.{◌≡◌, ℕ, ◌↔◌, IsTrue, Some}
use Rattle.upload_queue.specs.Book.{Book}
use Rattle.upload_queue.specs.Order.{is_next, rank}

-- at a second one number at most is the next
abbrev pub NextIsAlone : Type 0
NextIsAlone = (book : Book) (now one other : ℕ) → IsTrue (is_next book now one) → IsTrue (is_next book now other) → one ≡ other

-- the next is the number with rank 1
abbrev pub NextHasRankOne : Type 0
NextHasRankOne = (book : Book) (now number : ℕ) → IsTrue (is_next book now number) ↔ (rank book now number ≡ Some 1)

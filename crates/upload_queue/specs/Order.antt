-- Who comes before whom, at a second.
use Rattle.std.specs.Prelude.{ℕ, ◌+◌, ◌-◌, ◌*◌, Bool, not, false, Option, unwrap_or, option_map, count_by}
use Rattle.std.specs.List.{list_any}
use Rattle.std.specs.Ordering.{is_lt, nat_cmp, ordering_then}
use Rattle.upload_queue.specs.Book.{Book, credit_of, entry_of}
use Rattle.upload_queue.specs.declared.waiting.Waiting.{Waiting}

module _ (book : Book) (now : ℕ) where
  -- the seconds waited times the credit; a clock that went back counts as 0 seconds
  abbrev pub score : Waiting → ℕ
  score entry = (now - entry.since) * credit_of book entry.user

  -- the higher score comes first, then the earlier second, then the lower number
  abbrev pub comes_before : Waiting → Waiting → Bool
  comes_before one other =
      is_lt (ordering_then (nat_cmp (score other) (score one)) (ordering_then (nat_cmp one.since other.since) (nat_cmp one.number other.number)))

  -- 1 and the number of those who come before
  abbrev pub rank_of : Waiting → ℕ
  rank_of entry = 1 + count_by (λ other. comes_before other entry) book.waiting

  -- of a number that waits
  abbrev pub rank : ℕ → Option ℕ
  rank number = option_map rank_of (entry_of book number)

  -- nobody who waits comes before
  abbrev pub is_first : Waiting → Bool
  is_first entry = not (list_any (λ other. comes_before other entry) book.waiting)

  -- the number waits, and nobody who waits comes before it
  abbrev pub is_next : ℕ → Bool
  is_next number = unwrap_or (option_map is_first (entry_of book number)) false

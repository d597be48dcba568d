-- How many postings each key has, as the counts tell it.
use Rattle.std.specs.Prelude.{◌≡◌, ◌≢◌, ℕ, nat_eq, Option}
use Rattle.std.specs.HashMap.{HashMap, get}
use Rattle.std.specs.Option.{unwrap_or}

module _ {S : Type 0} where
  -- the count of a key, if it has one
  abbrev pub count_at : HashMap ℕ ℕ S → ℕ → Option ℕ
  count_at counts key = get nat_eq counts key

  -- how many a key is said to have, and 0 where it has no count
  abbrev pub count_of : HashMap ℕ ℕ S → ℕ → ℕ
  count_of counts key = unwrap_or (get nat_eq counts key) 0

  -- all other keys' counts are as they were
  abbrev pub KeepsOthers : HashMap ℕ ℕ S → HashMap ℕ ℕ S → ℕ → Type 0
  KeepsOthers old new key = (k : ℕ) → k ≢ key → count_at new k ≡ count_at old k

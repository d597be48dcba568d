-- The files of live sessions, by hash and then by number.
use Rattle.std.specs.Prelude.{◌≡◌, ◌||◌, ℕ, true, List, Option, length}
use Rattle.std.specs.Option.{IfSome}
use Rattle.std.specs.BTreeMap.{is_at}
use Rattle.std.specs.Map.{lookup}
use Rattle.std.specs.BTreeSet.{BTreeSet, contains}
use Rattle.server_index.specs.Live.{File}
use Rattle.server_index.specs.declared.files.Files.{Files}
use Rattle.server_index.specs.Found.{hashes}
use Rattle.server_index.specs.Order.{spot_cmp, posting_cmp}
use Rattle.server_index.specs.Postings.{lists, leaves, names}

-- the file at a spot: of a hash, from the session of a number
abbrev pub file_at : List ((List ℕ × ℕ) × File) → List ℕ × ℕ → Option File
file_at files spot = lookup (is_at (spot_cmp spot)) files

-- each live file has its spot under each word of its name
abbrev pub IsListed : List ((List ℕ × ℕ) × File) → BTreeSet (ℕ × (List ℕ × ℕ)) → Type 0
IsListed files postings = (q : List ℕ × ℕ) → IfSome (file_at files q) (λ f. lists postings f.name q ≡ true)

-- each posting is of a live file, or of one of these files, which aren't swept away yet
abbrev pub IsSwept : List ((List ℕ × ℕ) × File) → BTreeSet (ℕ × (List ℕ × ℕ)) → List ((List ℕ × ℕ) × Option File) → Type 0
IsSwept files postings gone = (q : ℕ × (List ℕ × ℕ)) → contains posting_cmp postings q ≡ true
    → (names (file_at files q.1) q.0 || leaves gone q) ≡ true

-- what holds between the files, their postings and the number of their hashes
pub record IsKept (files : Files) : Type 0 where
  pub listed : IsListed files.live.entries files.postings.set
  pub counted : files.hashes ≡ length (hashes files.live.entries)

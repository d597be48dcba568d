-- What an index is seen as: its live sessions by number, and their files by hash and then by number.
use Rattle.std.specs.Prelude.{◌≡◌, ℕ, false, nat_eq, Option, List, [], IsSome, length, map}
use Rattle.std.specs.Option.{IfSome}
use Rattle.std.specs.BTreeMap.{is_at}
use Rattle.std.specs.Map.{lookup}
use Rattle.std.specs.Ordering.{nat_cmp}
use Rattle.server_index.specs.Live.{File}
use Rattle.server_index.specs.declared.files.Files.{Files}
use Rattle.server_index.specs.declared.sessions.Session.{Session}
use Rattle.server_index.specs.Files.{IsKept, IsSwept, file_at}
use Rattle.server_index.specs.Offers.{IsOwned, held, files_of}

-- who a session is
pub record Member : Type 0 where
  pub user : List ℕ
  pub id : ℕ
  pub port : ℕ

abbrev pub member_of : ℕ × Session → ℕ × Member
member_of s = (s.0, record { user = s.1.user; id = s.1.id; port = s.1.port })

pub record Table : Type 0 where
  pub sessions : List (ℕ × Member)
  pub files : List ((List ℕ × ℕ) × File)

abbrev pub table_of : List (ℕ × Session) → Files → Table
table_of sessions files = record { sessions = map member_of sessions; files = files.live.entries }

-- the session of a number
abbrev pub member_at : List (ℕ × Member) → ℕ → Option Member
member_at sessions number = lookup (is_at (nat_cmp number)) sessions

-- the row of a number: its session, and the files that it offers
pub record Row : Type 0 where
  pub member : Option Member
  pub files : List ((List ℕ × ℕ) × File)

abbrev pub row_at : ℕ → Table → Row
row_at number table = record { member = member_at table.sessions number; files = files_of number table.files }

-- the rows of all other numbers are as they were
abbrev pub OthersStay : ℕ → Table → Table → Type 0
OthersStay number old new = (n : ℕ) → nat_eq n number ≡ false → row_at n new ≡ row_at n old

-- ---- what holds between the maps
abbrev pub session_at : List (ℕ × Session) → ℕ → Option Session
session_at sessions number = lookup (is_at (nat_cmp number)) sessions

pub record IsSound (sessions : List (ℕ × Session)) (files : Files) : Type 0 where
  pub kept : IsKept files
  pub swept : IsSwept files.live.entries files.postings.set []
  pub owned : (number : ℕ) → IfSome (session_at sessions number) (λ s. IsOwned number s.hashes.items files.live.entries)
  pub live : (q : List ℕ × ℕ) → IsSome (file_at files.live.entries q) → IsSome (session_at sessions q.1)
  pub counted : (number : ℕ) → IfSome (session_at sessions number) (λ s. length s.hashes.items ≡ held number files.live.entries)

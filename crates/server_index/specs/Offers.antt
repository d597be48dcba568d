-- What an offer does to the live files.
use Rattle.std.specs.Prelude.{◌≡◌, ℕ, ◌+◌, ◌||◌, Bool, true, nat_lt, nat_eq, if◌then◌else◌, Option, None, List, [], ◌∷◌, is_some, IsSome, ⊤, cond, length, filter}
use Rattle.std.specs.List.{list_any}
use Rattle.std.specs.Cmp.Lexicographic.{pointwise}
use Rattle.std.specs.BTreeMap.{insert_entry, is_at}
use Rattle.server_index.specs.Live.{File}
use Rattle.server_index.specs.declared.offers.Owner.{Owner}
use Rattle.search_expr.specs.declared.expr.FileRow.{FileRow}
use Rattle.server_index.specs.Order.{spot_cmp}
use Rattle.server_index.specs.Files.{file_at}

-- a live file: what the offer tells, and the session's id and port
abbrev pub live : Owner → FileRow → File
live owner row = record {
  name = row.name;
  size = row.size;
  kind = row.kind;
  id = owner.id;
  port = owner.port;
  short_name = row.short_name;
  short_kind = row.short_kind;
}

-- the files of a session, by hash
abbrev pub files_of : ℕ → List ((List ℕ × ℕ) × File) → List ((List ℕ × ℕ) × File)
files_of number files = filter (λ x. nat_eq x.0.1 number) files

-- how many live files a session has
abbrev pub held : ℕ → List ((List ℕ × ℕ) × File) → ℕ
held number files = length (files_of number files)

-- a file is taken where the session has its hash, or fewer than 10,000 files
abbrev pub is_taken : ℕ → List ((List ℕ × ℕ) × File) → FileRow → Bool
is_taken number files row = is_some (file_at files (row.hash, number)) || nat_lt (held number files) 10000

-- how many files were taken after an offer, and the live files then: what is taken stands in the stead of the session's
-- file of that hash, if there is one
abbrev pub offered : Owner → ℕ → List ((List ℕ × ℕ) × File) → List FileRow → ℕ × List ((List ℕ × ℕ) × File)
offered owner taken files [] = (taken, files)
offered owner taken files (row ∷ rows) =
    if is_taken owner.number files row
    then offered owner (taken + 1) (insert_entry spot_cmp files (row.hash, owner.number) (live owner row)) rows
    else offered owner taken files rows

-- ---- taking an offer back
-- the files with another at one spot, or none there
abbrev pub replaced : (List ℕ × ℕ → Option File) → List ℕ × ℕ → Option File → List ℕ × ℕ → Option File
replaced f spot old q = cond (is_at (spot_cmp spot) q) old (f q)

-- the files before the changes of a list, newest first, each with what stood at its spot
abbrev pub undone : List ((List ℕ × ℕ) × Option File) → (List ℕ × ℕ → Option File) → List ℕ × ℕ → Option File
undone [] f = f
undone (e ∷ es) f = undone es (replaced f e.0 e.1)

-- each change of the list left a file at its spot
abbrev pub IsUndoable : List ((List ℕ × ℕ) × Option File) → (List ℕ × ℕ → Option File) → Type 0
IsUndoable [] f = ⊤
IsUndoable (e ∷ es) f = IsSome (f e.0) × IsUndoable es (replaced f e.0 e.1)

-- the hashes of a session have those of all its live files
abbrev pub IsOwned : ℕ → List (List ℕ) → List ((List ℕ × ℕ) × File) → Type 0
IsOwned number hashes files = (hash : List ℕ) → IsSome (file_at files (hash, number)) → list_any (pointwise nat_eq hash) hashes ≡ true

-- the files without those of a session at the hashes of a list
abbrev pub cleared : ℕ → List (List ℕ) → (List ℕ × ℕ → Option File) → List ℕ × ℕ → Option File
cleared number [] f = f
cleared number (hash ∷ hashes) f = cleared number hashes (replaced f (hash, number) None)

-- Which live files an expression asks for, and the keys of words that they have.
use Rattle.std.specs.Prelude.{◌≡◌, ℕ, Bool, true, List, nat_eq}
use Rattle.std.specs.List.{list_all, list_any}
use Rattle.search_expr.specs.Meets as asked
use Rattle.search_expr.specs.Query.{Query}
use Rattle.server_index.specs.Live.{File}
use Rattle.server_index.specs.Words.{keys}

abbrev pub asks : Query → File → Bool
asks e file = asked.meets e (record { name = file.name; size = file.size; kind = file.kind })

-- the file has a word of this key in its name
abbrev pub has_key : File → ℕ → Bool
has_key file key = list_any (nat_eq key) (keys file.name)

-- each file that is asked for has all of these keys
abbrev pub Needs : Query → List ℕ → Type 0
Needs e all = (file : File) → asks e file ≡ true → list_all (has_key file) all ≡ true

-- each file that is asked for has one of these keys
abbrev pub Drives : Query → List ℕ → Type 0
Drives e some = (file : File) → asks e file ≡ true → list_any (has_key file) some ≡ true

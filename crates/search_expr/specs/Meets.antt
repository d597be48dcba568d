-- Which files an expression asks for.
use Rattle.std.specs.Prelude.{ℕ, Bool, false, ◌||◌, ◌&&◌, not, if◌then◌else◌, List, [], ◌∷◌, nat_le, nat_eq}
use Rattle.std.specs.Cmp.Lexicographic.{pointwise}
use Rattle.search_expr.specs.Query.{Query, Both, Either, ButNot, HasWords, HasText, HasNumber}
use Rattle.search_expr.specs.declared.expr.FileRow.{FileRow}
use Rattle.search_expr.specs.Words.{has_words, same_text}

-- what is asked about
pub record File : Type 0 where
  pub name : List ℕ
  pub size : ℕ
  pub kind : List ℕ

abbrev pub file_of : FileRow → File
file_of row = record { name = row.name; size = row.size; kind = row.kind }

-- a name of one byte
abbrev pub is_named : List ℕ → ℕ → Bool
is_named tag byte = pointwise nat_eq tag (byte ∷ [])

-- 1 is the name, and 3 the kind
abbrev pub meets_text : List ℕ → List ℕ → List ℕ → List ℕ → Bool
meets_text value tag name kind =
    if is_named tag 1 then has_words value name else (is_named tag 3 && same_text value kind)

-- 2 is the size
abbrev pub meets_number : ℕ → Bool → List ℕ → ℕ → Bool
meets_number value most tag size =
    if not (is_named tag 2) then false else (if most then nat_le size value else nat_le value size)

-- the file is asked for
abbrev pub meets : Query → File → Bool
meets (Both left right) file = meets left file && meets right file
meets (Either left right) file = meets left file || meets right file
meets (ButNot left right) file = meets left file && not (meets right file)
meets (HasWords text) file = has_words text file.name
meets (HasText value tag) file = meets_text value tag file.name file.kind
meets (HasNumber value most tag) file = meets_number value most tag file.size

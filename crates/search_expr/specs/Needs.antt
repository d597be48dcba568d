-- The words that each file has which is asked for.
use Rattle.std.specs.Prelude.{◌≡◌, ℕ, Bool, true, if◌then◌else◌, List, [], ◌∷◌, ◌++◌, map, nat_eq}
use Rattle.std.specs.List.{list_all, list_any}
use Rattle.search_expr.specs.Query.{Query, Both, Either, ButNot, HasWords, HasText, HasNumber}
use Rattle.search_expr.specs.Meets.{File, meets, is_named}
use Rattle.search_expr.specs.Words.{words, has_word}

-- words that each such file has
abbrev pub needs : Query → List (List ℕ)
needs (Both left right) = needs left ++ needs right
needs (Either left right) = []
needs (ButNot left right) = needs left
needs (HasWords text) = words text
needs (HasText value tag) = if is_named tag 1 then words value else []
needs (HasNumber value most tag) = []

-- lists of words, of one of which each such file has each word
abbrev pub sides : Query → List (List (List ℕ))
sides (Both left right) = map (λ some. some ++ needs right) (sides left)
sides (Either left right) = sides left ++ sides right
sides (ButNot left right) = sides left
sides (HasWords text) = words text ∷ []
sides (HasText value tag) = (if is_named tag 1 then words value else []) ∷ []
sides (HasNumber value most tag) = [] ∷ []

-- each of these is a word of the name
abbrev pub has_all : List ℕ → List (List ℕ) → Bool
has_all name some = list_all (has_word (words name)) some

abbrev pub NeedsAll : Type 0
NeedsAll = (e : Query) (file : File) → meets e file ≡ true → has_all file.name (needs e) ≡ true

abbrev pub NeedsOne : Type 0
NeedsOne =
    (e : Query) (file : File) → meets e file ≡ true → list_any (has_all file.name) (sides e) ≡ true

-- whatever number stands for a word: each number of a needed word stands for a word of the name
abbrev pub NeedsKeys : Type 0
NeedsKeys =
    (key : List ℕ → ℕ) (e : Query) (file : File) → meets e file ≡ true →
    list_all (λ k. list_any (nat_eq k) (map key (words file.name))) (map key (needs e)) ≡ true

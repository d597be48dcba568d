-- The words of a text.
use Rattle.std.specs.Prelude.{◌≡◌, ◌<◌, length, ℕ, Bool, ◌||◌, ◌&&◌, not, false, zero, suc, drop, slice_index, if◌then◌else◌, List, [], ◌∷◌, ◌++◌, nat_le, nat_eq, map}
use Rattle.std.specs.List.{list_any, list_all}
use Rattle.std.specs.Cmp.Lexicographic.{pointwise}
use Rattle.std.specs.Char.{to_ascii_lowercase, is_ascii_alphanumeric}

-- an ASCII letter, an ASCII digit or a byte from 0x80
abbrev pub is_word_byte : ℕ → Bool
is_word_byte b = nat_le 128 b || is_ascii_alphanumeric b

-- an ASCII letter in lower case, and any other byte as it is
abbrev pub lower : ℕ → ℕ
lower b = to_ascii_lowercase b

-- the word read so far, if it has a byte
abbrev pub closed : List ℕ → List (List ℕ)
closed [] = []
closed (b ∷ bs) = (b ∷ bs) ∷ []

-- the words of a text behind the word read so far
abbrev pub runs : List ℕ → List ℕ → List (List ℕ)
runs word [] = closed word
runs word (b ∷ bs) =
    if is_word_byte b then runs (word ++ lower b ∷ []) bs else closed word ++ runs [] bs

-- the words of a text: its maximal runs of word bytes, in lower case
abbrev pub words : List ℕ → List (List ℕ)
words text = runs [] text

-- the first word of a text, as it stands there, and the text behind it
abbrev pub IsFirstWord : List ℕ → List ℕ → List ℕ → Type 0
IsFirstWord text word rest =
    (words text ≡ map lower word ∷ words rest) × (length rest < length text) × (0 < length word)

-- the bytes up to the first that no word has, in lower case, and the bytes behind them
abbrev pub first_run : List ℕ → List ℕ
first_run [] = []
first_run (b ∷ bs) = if is_word_byte b then lower b ∷ first_run bs else []

abbrev pub after_run : List ℕ → List ℕ
after_run [] = []
after_run (b ∷ bs) = if is_word_byte b then after_run bs else b ∷ bs

-- a place within a word, behind its first byte or at its end
abbrev pub is_within : List ℕ → ℕ → Bool
is_within text zero = false
is_within text (suc before) = is_word_byte (slice_index text before)

-- a word that begins at a place is this one
abbrev pub stands_at : List ℕ → List ℕ → ℕ → Bool
stands_at word text at = not (is_within text at) && pointwise nat_eq word (first_run (drop at text))

-- one of these words
abbrev pub has_word : List (List ℕ) → List ℕ → Bool
has_word all word = list_any (pointwise nat_eq word) all

-- each word of the text is a word of the name
abbrev pub has_words : List ℕ → List ℕ → Bool
has_words text name = list_all (has_word (words name)) (words text)

-- equal but for the case of ASCII letters
abbrev pub same_text : List ℕ → List ℕ → Bool
same_text left right = pointwise nat_eq (map lower left) (map lower right)

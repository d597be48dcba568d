-- The keys of a text's words.
use Rattle.std.specs.Prelude.{ℕ, ◌+◌, ◌*◌, ◌%◌, ◌^◌, if◌then◌else◌, List, [], ◌∷◌, map}
use Rattle.search_expr.specs.Words.{is_word_byte, lower, words}

-- the key behind one more byte
abbrev pub next_key : ℕ → ℕ → ℕ
next_key key b = (((key * 1099511628211) % 2 ^ 64) + b) % 2 ^ 64

abbrev pub key_behind : ℕ → List ℕ → ℕ
key_behind key [] = key
key_behind key (b ∷ bs) = key_behind (next_key key b) bs

-- a number for a word; equal words have equal ones
abbrev pub key_of : List ℕ → ℕ
key_of word = key_behind 1 word

-- the keys of a text's words
abbrev pub keys : List ℕ → List ℕ
keys text = map key_of (words text)

-- the keys of the words of a text behind a word whose key so far is key
abbrev pub keys_behind : ℕ → List ℕ → List ℕ
keys_behind key [] = key ∷ []
keys_behind key (b ∷ bs) = if is_word_byte b then keys_behind (next_key key (lower b)) bs else key ∷ keys bs

-- A word read byte by byte has the key of the word.
use Rattle.std.proofs.Common.{◌≡◌, ℕ, ◌+◌, true, false, List, [], ◌∷◌, ◌++◌, refl, sym, ap, ◌∙◌, drop, length, ◌<◌, get_or, drop-cons, ⊎_elim}
use Rattle.std.proofs.Common.{add-one}
use Rattle.std.specs.Prelude.{map}
use Rattle.std.proofs.lemmas.Bool.{cases_Bool, cond-true, cond-false}
use Rattle.search_expr.specs.Words.{is_word_byte, lower, closed, runs}
use Rattle.server_index.specs.Words.{next_key, key_behind, key_of, keys, keys_behind}

key_behind-push : (key : ℕ) (word : List ℕ) (b : ℕ) → key_behind key (word ++ b ∷ []) ≡ next_key (key_behind key word) b
key_behind-push key [] b = refl
key_behind-push key (x ∷ xs) b = key_behind-push (next_key key x) xs b

runs-word : (word : List ℕ) (b : ℕ) (bs : List ℕ) → is_word_byte b ≡ true → runs word (b ∷ bs) ≡ runs (word ++ lower b ∷ []) bs
runs-word word b bs e = cond-true (is_word_byte b) (runs (word ++ lower b ∷ []) bs) (closed word ++ runs [] bs) e

runs-other : (word : List ℕ) (b : ℕ) (bs : List ℕ) → is_word_byte b ≡ false → runs word (b ∷ bs) ≡ closed word ++ runs [] bs
runs-other word b bs e = cond-false (is_word_byte b) (runs (word ++ lower b ∷ []) bs) (closed word ++ runs [] bs) e

pub keys_behind-word : (key b : ℕ) (bs : List ℕ) → is_word_byte b ≡ true → keys_behind key (b ∷ bs) ≡ keys_behind (next_key key (lower b)) bs
keys_behind-word key b bs e = cond-true (is_word_byte b) (keys_behind (next_key key (lower b)) bs) (key ∷ keys bs) e

pub keys_behind-end : (key b : ℕ) (bs : List ℕ) → is_word_byte b ≡ false → keys_behind key (b ∷ bs) ≡ key ∷ keys bs
keys_behind-end key b bs e = cond-false (is_word_byte b) (keys_behind (next_key key (lower b)) bs) (key ∷ keys bs) e

runs_keys : (c : ℕ) (cs bs : List ℕ) → map key_of (runs (c ∷ cs) bs) ≡ keys_behind (key_of (c ∷ cs)) bs
runs_keys c cs [] = refl
runs_keys c cs (b ∷ bs) = ⊎_elim
    (λ e. ap (map key_of) (runs-word (c ∷ cs) b bs e) ∙ runs_keys c (cs ++ lower b ∷ []) bs ∙ ap (λ (k : ℕ). keys_behind k bs) (key_behind-push 1 (c ∷ cs) (lower b)) ∙ sym (keys_behind-word (key_of (c ∷ cs)) b bs e))
    (λ e. ap (map key_of) (runs-other (c ∷ cs) b bs e) ∙ sym (keys_behind-end (key_of (c ∷ cs)) b bs e))
    (cases_Bool (is_word_byte b))

-- a word begins
pub keys-word : (b : ℕ) (bs : List ℕ) → is_word_byte b ≡ true → keys (b ∷ bs) ≡ keys_behind (next_key 1 (lower b)) bs
keys-word b bs e = ap (map key_of) (runs-word [] b bs e) ∙ runs_keys (lower b) [] bs

-- no word begins
pub keys-other : (b : ℕ) (bs : List ℕ) → is_word_byte b ≡ false → keys (b ∷ bs) ≡ keys bs
keys-other b bs e = ap (map key_of) (runs-other [] b bs e)

pub next_word-some : (text : List ℕ) (at start key : ℕ) (rest : List ℕ) → start < length text → keys (drop start text) ≡ keys (drop at text) → is_word_byte (get_or text start 0) ≡ true
    → keys_behind (next_key 1 (lower (get_or text start 0))) (drop (start + 1) text) ≡ key ∷ rest → keys (drop at text) ≡ key ∷ rest
next_word-some text at start key rest lt same word behind =
    let cut : drop start text ≡ get_or text start 0 ∷ drop (start + 1) text = rw (add-one, drop-cons text start 0) refl in
    sym same ∙ ap keys cut ∙ keys-word (get_or text start 0) (drop (start + 1) text) word ∙ behind

-- A word read byte by byte is a word of the text.
use Rattle.std.proofs.Common.{◌≡◌, ℕ, zero, suc, ◌+◌, ◌-◌, true, false, List, [], ◌∷◌, ◌++◌, refl, sym, ap, ◌∙◌, take, drop, length, ◌<◌, ◌≤◌, get_or, drop-cons, ⊎_elim, map, arith}
use Rattle.std.proofs.Common.{add-one}
use Rattle.std.specs.List.{slice_range}
use Rattle.std.proofs.lemmas.Bool.{cases_Bool, cond-true, cond-false}
use Rattle.std.proofs.lemmas.List.{get_or-drop, length-drop}
use Rattle.std.proofs.lemmas.List.{map-append}
use Rattle.search_expr.specs.Words.{is_word_byte, lower, closed, runs, words}

pub runs-word : (word : List ℕ) (b : ℕ) (bs : List ℕ) → is_word_byte b ≡ true → runs word (b ∷ bs) ≡ runs (word ++ lower b ∷ []) bs
runs-word word b bs e = cond-true (is_word_byte b) (runs (word ++ lower b ∷ []) bs) (closed word ++ runs [] bs) e

pub runs-other : (word : List ℕ) (b : ℕ) (bs : List ℕ) → is_word_byte b ≡ false → runs word (b ∷ bs) ≡ closed word ++ runs [] bs
runs-other word b bs e = cond-false (is_word_byte b) (runs (word ++ lower b ∷ []) bs) (closed word ++ runs [] bs) e

take_one_more : (xs : List ℕ) (n : ℕ) → n < length xs → take (n + 1) xs ≡ take n xs ++ get_or xs n 0 ∷ []
take_one_more [] n lt = absurd (omega arith)
take_one_more (x ∷ xs) zero lt = refl
take_one_more (x ∷ xs) (suc n) lt = let e : suc n + 1 ≡ suc (n + 1) = omega arith in rw e (ap (λ (ys : List ℕ). x ∷ ys) (take_one_more xs n (omega (arith, lt))))

-- a range of one more
pub range_one_more : (text : List ℕ) (at end : ℕ) → at ≤ end → end < length text → slice_range text at (end + 1) ≡ slice_range text at end ++ get_or text end 0 ∷ []
range_one_more text at end le lt =
    let e : end + 1 - at ≡ (end - at) + 1 = omega arith in
    let f : at + (end - at) ≡ end = omega arith in
    let g : end - at < length (drop at text) = omega (arith, length-drop at text) in
    ap (λ (n : ℕ). take n (drop at text)) e ∙ take_one_more (drop at text) (end - at) g ∙ ap (λ (b : ℕ). slice_range text at end ++ b ∷ []) (get_or-drop at text (end - at) 0 ∙ ap (λ (n : ℕ). get_or text n 0) f)

-- one more byte of the word
pub runs-more : (text : List ℕ) (at end : ℕ) → at ≤ end → end < length text → is_word_byte (get_or text end 0) ≡ true
    → runs (map lower (slice_range text at end)) (drop end text) ≡ words (drop at text)
    → runs (map lower (slice_range text at (end + 1))) (drop (end + 1) text) ≡ words (drop at text)
runs-more text at end le lt word so_far =
    let cut : drop end text ≡ get_or text end 0 ∷ drop (end + 1) text = rw (add-one, drop-cons text end 0) refl in
    let joined : map lower (slice_range text at (end + 1)) ≡ map lower (slice_range text at end) ++ lower (get_or text end 0) ∷ [] = ap (map lower) (range_one_more text at end le lt) ∙ map-append lower (slice_range text at end) (get_or text end 0 ∷ []) in
    ap (λ (w : List ℕ). runs w (drop (end + 1) text)) joined ∙ sym (runs-word (map lower (slice_range text at end)) (get_or text end 0) (drop (end + 1) text) word) ∙ ap (runs (map lower (slice_range text at end))) (sym cut) ∙ so_far

-- Looking for a word byte by byte, without where each word ends.
use Rattle.std.proofs.Common.{◌≡◌, ℕ, zero, suc, ◌+◌, ◌<◌, ◌≤◌, Bool, true, false, ◌&&◌, ◌||◌, not, cond, List, [], ◌∷◌, ◌++◌, refl, sym, ap, ◌∙◌, append_assoc, drop, length, get_or, drop-cons, map, nat_eq, arith}
use Rattle.std.proofs.Common.{add-one}
use Rattle.std.specs.Cmp.Lexicographic.{pointwise}
use Rattle.std.proofs.lemmas.Bool.{cond-true, cond-false}
use Rattle.std.proofs.lemmas.List.{append-nil, drop_all}
use Rattle.search_expr.specs.Words.{is_word_byte, lower, closed, runs, words, has_word, first_run, after_run, is_within, stands_at}
use Rattle.search_expr.proofs.WordLemmas.{runs-word, runs-other}

-- the words of what is left at a place: within a word, of what stands behind it
pub rest_words : List ℕ → ℕ → List (List ℕ)
rest_words text at = cond (is_within text at) (words (after_run (drop at text))) (words (drop at text))

-- one more byte, of the word or behind it
one_more : (b : ℕ) (word : List ℕ) (c : ℕ) (cs : List ℕ) (byte : Bool) → is_word_byte c ≡ byte
    → runs (b ∷ word ++ lower c ∷ []) cs ≡ (b ∷ (word ++ lower c ∷ []) ++ first_run cs) ∷ words (after_run cs)
    → runs (b ∷ word) (c ∷ cs) ≡ (b ∷ word ++ first_run (c ∷ cs)) ∷ words (after_run (c ∷ cs))
one_more b word c cs true e rest =
    let run : first_run (c ∷ cs) ≡ lower c ∷ first_run cs = cond-true (is_word_byte c) (lower c ∷ first_run cs) [] e in
    let after : after_run (c ∷ cs) ≡ after_run cs = cond-true (is_word_byte c) (after_run cs) (c ∷ cs) e in
    runs-word (b ∷ word) c cs e ∙ rest ∙ ap (λ (w : List ℕ). (b ∷ w) ∷ words (after_run cs)) (append_assoc word (lower c ∷ []) (first_run cs))
    ∙ ap (λ (w : List ℕ). (b ∷ word ++ w) ∷ words (after_run cs)) (sym run) ∙ ap (λ (w : List ℕ). (b ∷ word ++ first_run (c ∷ cs)) ∷ words w) (sym after)
one_more b word c cs false e rest =
    let run : first_run (c ∷ cs) ≡ [] = cond-false (is_word_byte c) (lower c ∷ first_run cs) [] e in
    let after : after_run (c ∷ cs) ≡ c ∷ cs = cond-false (is_word_byte c) (after_run cs) (c ∷ cs) e in
    runs-other (b ∷ word) c cs e
    ∙ ap (λ (ws : List (List ℕ)). (b ∷ word) ∷ ws) (sym (runs-other [] c cs e))
    ∙ ap (λ (w : List ℕ). (b ∷ w) ∷ words (c ∷ cs)) (sym (append-nil word))
    ∙ ap (λ (w : List ℕ). (b ∷ word ++ w) ∷ words (c ∷ cs)) (sym run) ∙ ap (λ (w : List ℕ). (b ∷ word ++ first_run (c ∷ cs)) ∷ words w) (sym after)

-- a word that was begun is closed by the run that follows
runs-closed : (b : ℕ) (word bs : List ℕ) → runs (b ∷ word) bs ≡ (b ∷ word ++ first_run bs) ∷ words (after_run bs)
runs-closed b word [] = ap (λ (w : List ℕ). (b ∷ w) ∷ []) (sym (append-nil word))
runs-closed b word (c ∷ cs) = one_more b word c cs (is_word_byte c) refl (runs-closed b (word ++ lower c ∷ []) cs)

-- the first word of bytes that begin with one
words-run : (b : ℕ) (bs : List ℕ) → is_word_byte b ≡ true → words (b ∷ bs) ≡ first_run (b ∷ bs) ∷ words (after_run bs)
words-run b bs e =
    let run : first_run (b ∷ bs) ≡ lower b ∷ first_run bs = cond-true (is_word_byte b) (lower b ∷ first_run bs) [] e in
    runs-word [] b bs e ∙ runs-closed (lower b) [] bs ∙ ap (λ (w : List ℕ). w ∷ words (after_run bs)) (sym run)

split_at : (text : List ℕ) (at : ℕ) → at < length text → drop at text ≡ get_or text at 0 ∷ drop (at + 1) text
split_at text at lt = rw (add-one, drop-cons text at 0) refl

within-next : (text : List ℕ) (at : ℕ) → is_within text (at + 1) ≡ is_word_byte (get_or text at 0)
within-next text at = rw add-one refl

-- at a byte that no word has, none stands
run-other : (b : ℕ) (bs : List ℕ) → is_word_byte b ≡ false → first_run (b ∷ bs) ≡ []
run-other b bs e = cond-false (is_word_byte b) (lower b ∷ first_run bs) [] e

-- the two ways to go on: by whether a place is within a word, and whether a byte is one of a word
step : (word : List ℕ) (b : ℕ) (bs : List ℕ) (within byte : Bool) → is_word_byte b ≡ byte → (not within && pointwise nat_eq word (first_run (b ∷ bs))) ≡ false
    → has_word (cond byte (words (after_run bs)) (words bs)) word ≡ has_word (cond within (words (after_run (b ∷ bs))) (words (b ∷ bs))) word
step word b bs true true e miss = ap (λ (rest : List ℕ). has_word (words rest) word) (sym (cond-true (is_word_byte b) (after_run bs) (b ∷ bs) e))
step word b bs true false e miss =
    ap (λ (ws : List (List ℕ)). has_word ws word) (sym (runs-other [] b bs e))
    ∙ ap (λ (rest : List ℕ). has_word (words rest) word) (sym (cond-false (is_word_byte b) (after_run bs) (b ∷ bs) e))
step word b bs false true e miss =
    let first : pointwise nat_eq word (first_run (b ∷ bs)) ≡ false = miss in
    let here : has_word (words (b ∷ bs)) word ≡ (pointwise nat_eq word (first_run (b ∷ bs)) || has_word (words (after_run bs)) word) = ap (λ (ws : List (List ℕ)). has_word ws word) (words-run b bs e) in
    sym (here ∙ ap (λ (t : Bool). t || has_word (words (after_run bs)) word) first)
step word b bs false false e miss = ap (λ (ws : List (List ℕ)). has_word ws word) (sym (runs-other [] b bs e))

-- one byte further, where the word doesn't stand
pub further : (word text : List ℕ) (at : ℕ) → at < length text → stands_at word text at ≡ false → has_word (rest_words text (at + 1)) word ≡ has_word (rest_words text at) word
unfolding rest_words
further word text at lt miss =
    let cut : drop at text ≡ get_or text at 0 ∷ drop (at + 1) text = split_at text at lt in
    let missed : (not (is_within text at) && pointwise nat_eq word (first_run (get_or text at 0 ∷ drop (at + 1) text))) ≡ false =
    sym (ap (λ (rest : List ℕ). not (is_within text at) && pointwise nat_eq word (first_run rest)) cut) ∙ miss in
    ap (λ (t : Bool). has_word (cond t (words (after_run (drop (at + 1) text))) (words (drop (at + 1) text))) word) (within-next text at)
    ∙ step word (get_or text at 0) (drop (at + 1) text) (is_within text at) (is_word_byte (get_or text at 0)) refl missed
    ∙ ap (λ (rest : List ℕ). has_word (cond (is_within text at) (words (after_run rest)) (words rest)) word) (sym cut)

here : (w : ℕ) (ws : List ℕ) (b : ℕ) (bs : List ℕ) (within byte : Bool) → is_word_byte b ≡ byte → (not within && pointwise nat_eq (w ∷ ws) (first_run (b ∷ bs))) ≡ true
    → has_word (cond within (words (after_run (b ∷ bs))) (words (b ∷ bs))) (w ∷ ws) ≡ true
here w ws b bs true byte e hit = absurd cc
here w ws b bs false true e hit =
    let found : pointwise nat_eq (w ∷ ws) (first_run (b ∷ bs)) ≡ true = hit in
    ap (λ (all : List (List ℕ)). has_word all (w ∷ ws)) (words-run b bs e) ∙ ap (λ (t : Bool). t || has_word (words (after_run bs)) (w ∷ ws)) found
here w ws b bs false false e hit =
    let none : pointwise nat_eq (w ∷ ws) (first_run (b ∷ bs)) ≡ false = ap (pointwise nat_eq (w ∷ ws)) (run-other b bs e) in
    absurd (apart (sym none ∙ hit))
  where
    apart : false ≡ true → ⊥
    apart x = cc

-- the word stands here
pub found : (word text : List ℕ) (at : ℕ) → 0 < length word → at < length text → stands_at (map lower word) text at ≡ true → has_word (rest_words text at) (map lower word) ≡ true
unfolding rest_words
found [] text at some lt hit = absurd (omega arith)
found (w ∷ ws) text at some lt hit =
    let cut : drop at text ≡ get_or text at 0 ∷ drop (at + 1) text = split_at text at lt in
    let stands : (not (is_within text at) && pointwise nat_eq (map lower (w ∷ ws)) (first_run (get_or text at 0 ∷ drop (at + 1) text))) ≡ true =
    sym (ap (λ (rest : List ℕ). not (is_within text at) && pointwise nat_eq (map lower (w ∷ ws)) (first_run rest)) cut) ∙ hit in
    ap (λ (rest : List ℕ). has_word (cond (is_within text at) (words (after_run rest)) (words rest)) (map lower (w ∷ ws))) cut
    ∙ here (lower w) (map lower ws) (get_or text at 0) (drop (at + 1) text) (is_within text at) (is_word_byte (get_or text at 0)) refl stands

other_byte : (w : ℕ) (ws : List ℕ) (b : ℕ) (bs : List ℕ) (byte : Bool) → is_word_byte b ≡ byte → nat_eq w (lower b) ≡ false → pointwise nat_eq (w ∷ ws) (first_run (b ∷ bs)) ≡ false
other_byte w ws b bs true e differ =
    ap (pointwise nat_eq (w ∷ ws)) (cond-true (is_word_byte b) (lower b ∷ first_run bs) [] e) ∙ ap (λ (t : Bool). t && pointwise nat_eq ws (first_run bs)) differ
other_byte w ws b bs false e differ = ap (pointwise nat_eq (w ∷ ws)) (run-other b bs e)

and_false : (p q : Bool) → q ≡ false → (p && q) ≡ false
and_false true q e = e
and_false false q e = refl

-- a word with another first byte doesn't stand here
differs : (word text : List ℕ) (at : ℕ) → 0 < length word → at < length text → nat_eq (lower (get_or word 0 0)) (lower (get_or text at 0)) ≡ false → stands_at (map lower word) text at ≡ false
differs [] text at some lt differ = absurd (omega arith)
differs (w ∷ ws) text at some lt differ =
    let cut : drop at text ≡ get_or text at 0 ∷ drop (at + 1) text = split_at text at lt in
    and_false (not (is_within text at)) (pointwise nat_eq (map lower (w ∷ ws)) (first_run (drop at text)))
    (ap (λ (rest : List ℕ). pointwise nat_eq (map lower (w ∷ ws)) (first_run rest)) cut ∙ other_byte (lower w) (map lower ws) (get_or text at 0) (drop (at + 1) text) (is_word_byte (get_or text at 0)) refl differ)

pub differs_by : (word text : List ℕ) (at first byte : ℕ) → 0 < length word → at < length text → first ≡ lower (get_or word 0 0) → byte ≡ lower (get_or text at 0) → nat_eq first byte ≡ false → stands_at (map lower word) text at ≡ false
differs_by word text at first byte some lt is_first is_byte differ =
    differs word text at some lt (ap (λ (n : ℕ). nat_eq n (lower (get_or text at 0))) (sym is_first) ∙ ap (λ (n : ℕ). nat_eq first n) (sym is_byte) ∙ differ)

-- where no word begins, none stands
pub no_start : (word text : List ℕ) (at : ℕ) → 0 < length word → at < length text → (is_word_byte (get_or text at 0) && not (is_within text at)) ≡ false → stands_at (map lower word) text at ≡ false
no_start [] text at some lt none = absurd (omega arith)
no_start (w ∷ ws) text at some lt none = by_cases (is_word_byte (get_or text at 0)) (is_within text at) refl refl none
  where
    cut : drop at text ≡ get_or text at 0 ∷ drop (at + 1) text
    cut = split_at text at lt

    by_cases : (byte within : Bool) → is_word_byte (get_or text at 0) ≡ byte → is_within text at ≡ within → (byte && not within) ≡ false → stands_at (map lower (w ∷ ws)) text at ≡ false
    by_cases true true e f n = ap (λ (t : Bool). not t && pointwise nat_eq (map lower (w ∷ ws)) (first_run (drop at text))) f
    by_cases true false e f n = absurd cc
    by_cases false within e f n = and_false (not (is_within text at)) (pointwise nat_eq (map lower (w ∷ ws)) (first_run (drop at text))) (ap (λ (rest : List ℕ). pointwise nat_eq (map lower (w ∷ ws)) (first_run rest)) cut ∙ ap (pointwise nat_eq (map lower (w ∷ ws))) (run-other (get_or text at 0) (drop (at + 1) text) e))

head_is : (x y : List ℕ) (xs ys : List (List ℕ)) → x ∷ xs ≡ y ∷ ys → x ≡ y
head_is x y xs ys e = cc

true_both : (p q : Bool) → (p && q) ≡ true → (p ≡ true) × (q ≡ true)
true_both true q e = (refl, e)
true_both false q e = absurd cc

not_true : (p : Bool) → not p ≡ true → p ≡ false
not_true true e = absurd cc
not_true false e = refl

-- the word that begins here, as far as it goes
pub stands-is : (word text : List ℕ) (at : ℕ) (here : List ℕ) (rest : List (List ℕ)) → at < length text → (is_word_byte (get_or text at 0) && not (is_within text at)) ≡ true
    → words (drop at text) ≡ map lower here ∷ rest → pointwise nat_eq (map lower word) (map lower here) ≡ stands_at (map lower word) text at
stands-is word text at here rest lt start e =
    let cut : drop at text ≡ get_or text at 0 ∷ drop (at + 1) text = split_at text at lt in
    let parts = true_both (is_word_byte (get_or text at 0)) (not (is_within text at)) start in
    let outside : is_within text at ≡ false = not_true (is_within text at) parts.1 in
    let first : words (drop at text) ≡ first_run (drop at text) ∷ words (after_run (drop (at + 1) text)) =
    ap words cut ∙ words-run (get_or text at 0) (drop (at + 1) text) parts.0 ∙ ap (λ (t : List ℕ). first_run t ∷ words (after_run (drop (at + 1) text))) (sym cut) in
    let same : map lower here ≡ first_run (drop at text) = head_is (map lower here) (first_run (drop at text)) rest (words (after_run (drop (at + 1) text))) (sym e ∙ first) in
    ap (pointwise nat_eq (map lower word)) same ∙ sym (ap (λ (t : Bool). not t && pointwise nat_eq (map lower word) (first_run (drop at text))) outside)

-- at the end no word is left
pub at_end : (word text : List ℕ) (at : ℕ) → length text ≤ at → has_word (rest_words text at) word ≡ false
unfolding rest_words
at_end word text at le =
    let nothing : drop at text ≡ [] = drop_all at text le in
    ap (λ (rest : List ℕ). has_word (cond (is_within text at) (words (after_run rest)) (words rest)) word) nothing ∙ either (is_within text at)
  where
    either : (t : Bool) → has_word (cond t (words (after_run [])) (words [])) word ≡ false
    either true = refl
    either false = refl

pub at_start : (word text : List ℕ) → has_word (rest_words text 0) word ≡ has_word (words text) word
unfolding rest_words
at_start word text = refl

-- A piece read byte by byte is a piece of the text.
use Rattle.std.proofs.Common.{◌≡◌, ℕ, zero, suc, ◌+◌, ◌-◌, Bool, true, false, cond, List, [], ◌∷◌, ◌++◌, refl, sym, ap, ◌∙◌, take, drop, length, ◌<◌, ◌≤◌, get_or, drop-cons, arith}
use Rattle.std.proofs.Common.{add-one}
use Rattle.std.specs.Prelude.{◌==◌}
use Rattle.std.specs.List.{slice_range}
use Rattle.std.proofs.lemmas.Bool.{cond-true, cond-false, ne_eqb}
use Rattle.std.proofs.lemmas.List.{length-drop, length-take}
use Rattle.search_expr.specs.Typed.{closed, cut, pieces_from}
use Rattle.search_expr.proofs.WordLemmas.{range_one_more}

cut-space : (at : ℕ) (piece : List ℕ) (b : ℕ) (bs : List ℕ) → (b == 32) ≡ true → cut at piece (b ∷ bs) ≡ closed at piece ++ cut (at + 1) [] bs
cut-space at piece b bs e = cond-true (b == 32) (closed at piece ++ cut (at + 1) [] bs) (cut (at + 1) (piece ++ b ∷ []) bs) e

cut-more : (at : ℕ) (piece : List ℕ) (b : ℕ) (bs : List ℕ) → (b == 32) ≡ false → cut at piece (b ∷ bs) ≡ cut (at + 1) (piece ++ b ∷ []) bs
cut-more at piece b bs e = cond-false (b == 32) (closed at piece ++ cut (at + 1) [] bs) (cut (at + 1) (piece ++ b ∷ []) bs) e

cut_at : (text : List ℕ) (at : ℕ) → at < length text → drop at text ≡ get_or text at 0 ∷ drop (at + 1) text
cut_at text at lt = rw (add-one, drop-cons text at 0) refl

-- a space between pieces
pub pieces-skip : (text : List ℕ) (at : ℕ) → at < length text → (get_or text at 0 == 32) ≡ true → pieces_from (at + 1) text ≡ pieces_from at text
pieces-skip text at lt e = sym (ap (cut at []) (cut_at text at lt) ∙ cut-space at [] (get_or text at 0) (drop (at + 1) text) e)

-- one more byte of a piece
pub pieces-more : (text : List ℕ) (at end : ℕ) → at ≤ end → end < length text → (get_or text end 0 ≡ 32 → ⊥)
    → cut end (slice_range text at end) (drop end text) ≡ pieces_from at text
    → cut (end + 1) (slice_range text at (end + 1)) (drop (end + 1) text) ≡ pieces_from at text
pieces-more text at end le lt e so_far =
    ap (λ (piece : List ℕ). cut (end + 1) piece (drop (end + 1) text)) (range_one_more text at end le lt)
    ∙ sym (cut-more end (slice_range text at end) (get_or text end 0) (drop (end + 1) text) (ne_eqb (get_or text end 0) 32 e))
    ∙ ap (cut end (slice_range text at end)) (sym (cut_at text end lt)) ∙ so_far

-- Each table of bytes is the list of what each byte is.
use Rattle.std.proofs.Common.{◌≡◌, ℕ, zero, suc, ◌+◌, ◌<◌, Bool, false, List, [], ◌∷◌, get_or, refl, ap, ◌∙◌, arith}
use Rattle.search_expr.specs.declared.words.TheConstants.{WORD_BYTES, LOWERED}
use Rattle.search_expr.specs.Words.{is_word_byte, lower}

-- what a function gives at so many numbers from a first one on
values : {A : Type 0} → (ℕ → A) → ℕ → ℕ → List A
values f first zero = []
values f first (suc count) = f first ∷ values f (first + 1) count

value_at : {A : Type 0} (none : A) (f : ℕ → A) (first count k : ℕ) → k < count → get_or (values f first count) k none ≡ f (first + k)
unfolding values
value_at none f first zero k lt = absurd (omega arith)
value_at none f first (suc count) zero lt = ap f (omega arith)
value_at none f first (suc count) (suc k) lt = value_at none f (first + 1) count k (omega (arith, lt)) ∙ ap f (omega arith)

table_is : WORD_BYTES ≡ values is_word_byte 0 256
unfolding values
table_is = refl

pub entry_is : (b : ℕ) → b < 256 → get_or WORD_BYTES b false ≡ is_word_byte b
entry_is b lt =
    let same : 0 + b ≡ b = omega arith in
    ap (λ (t : List Bool). get_or t b false) table_is ∙ value_at false is_word_byte 0 256 b lt ∙ ap is_word_byte same

lowered_is : LOWERED ≡ values lower 0 256
unfolding values
lowered_is = refl

pub lowered_at : (b : ℕ) → b < 256 → get_or LOWERED b 0 ≡ lower b
lowered_at b lt =
    let same : 0 + b ≡ b = omega arith in
    ap (λ (t : List ℕ). get_or t b 0) lowered_is ∙ value_at 0 lower 0 256 b lt ∙ ap lower same

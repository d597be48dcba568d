-- Words are options or plain, so only three of them can be a link, a place and one option.
use Rattle.std.proofs.Common.{arith, ◌≡◌, ◌≢◌, refl, ℕ, ◌+◌, List, [], ◌∷◌, length, filter, true, false, not, cond, None, ◌∙◌, sym}
use Rattle.ed2k_node.specs.Words.{is_option, is_plain, download_of, asks_of}

two_kinds : (words : List (List ℕ)) → length (filter is_plain words) + length (filter is_option words) ≡ length words
two_kinds [] = refl
two_kinds (w ∷ ws) =
    let rest = two_kinds ws in
    elim (is_option w) as (λ b. length (cond (not b) (w ∷ filter is_plain ws) (filter is_plain ws)) + length (cond b (w ∷ filter is_option ws) (filter is_option ws)) ≡ length (w ∷ ws))
    [ true ↦ omega (arith, rest) | false ↦ omega (arith, rest) ]

download_of-other : (plain options : List (List ℕ)) → length plain + length options ≢ 3 → download_of plain options ≡ None
download_of-other [] options other = refl
download_of-other (a ∷ []) options other = refl
download_of-other (a ∷ b ∷ []) [] other = refl
download_of-other (a ∷ b ∷ []) (o ∷ []) other = absurd (other refl)
download_of-other (a ∷ b ∷ []) (o ∷ p ∷ options) other = refl
download_of-other (a ∷ b ∷ c ∷ plain) options other = refl

pub asks_of-other : (words : List (List ℕ)) → length words ≢ 3 → asks_of words ≡ None
asks_of-other words other =
    download_of-other (filter is_plain words) (filter is_option words) (λ e. other (sym (two_kinds words) ∙ e))

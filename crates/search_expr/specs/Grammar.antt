-- The grammar of expressions: which bytes spell which expression.
use Rattle.std.specs.Prelude.{◌≡◌, ℕ, Bool, true, false, ◌⊎◌, List, ◌∷◌, ◌++◌, []}
use Rattle.ed2k_tags.specs.Grammar.{IsNumber, IsCounted}
use Rattle.search_expr.specs.Query.{Query, Both, Either, ButNot, HasWords, HasText, HasNumber}

-- the operators of a most and of a least
abbrev pub IsOperator : Bool → ℕ → Type 0
IsOperator true byte = (byte ≡ 2) ⊎ (byte ≡ 4)
IsOperator false byte = (byte ≡ 1) ⊎ (byte ≡ 3)

abbrev pub IsExpr : Query → List ℕ → Type 0
IsExpr (Both left right) bytes =
    (a b : List ℕ) × IsExpr left a × IsExpr right b × (bytes ≡ 0 ∷ 0 ∷ (a ++ b))
IsExpr (Either left right) bytes =
    (a b : List ℕ) × IsExpr left a × IsExpr right b × (bytes ≡ 0 ∷ 1 ∷ (a ++ b))
IsExpr (ButNot left right) bytes =
    (a b : List ℕ) × IsExpr left a × IsExpr right b × (bytes ≡ 0 ∷ 2 ∷ (a ++ b))
IsExpr (HasWords text) bytes = (a : List ℕ) × IsCounted 2 text a × (bytes ≡ 1 ∷ a)
IsExpr (HasText value name) bytes =
    (a b : List ℕ) × IsCounted 2 value a × IsCounted 2 name b × (bytes ≡ 2 ∷ (a ++ b))
IsExpr (HasNumber value most name) bytes =
    (a b : List ℕ) × (byte : ℕ) × IsNumber 4 value a × IsOperator most byte × IsCounted 2 name b × (bytes ≡ 3 ∷ (a ++ byte ∷ b))

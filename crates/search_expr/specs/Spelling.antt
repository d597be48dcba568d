-- How expressions are written, and which bytes spell which expression.
use Rattle.std.specs.Prelude.{◌≡◌, ◌<◌, ℕ, ◌^◌, Bool, true, ◌&&◌, List, ◌∷◌, ◌++◌, [], length, nat_lt, if◌then◌else◌}
use Rattle.byteorder.specs.Endian.{little_bytes}
use Rattle.ed2k_tags.specs.Fields.{counted}
use Rattle.ed2k_tags.specs.Grammar.{IsNumber, IsCounted}
use Rattle.search_expr.specs.Query.{Query, Both, Either, ButNot, HasWords, HasText, HasNumber}

-- the operator that is written
abbrev pub operator : Bool → ℕ
operator most = if most then 2 else 1

abbrev pub spell : Query → List ℕ
spell (Both left right) = (0 ∷ 0 ∷ []) ++ spell left ++ spell right
spell (Either left right) = (0 ∷ 1 ∷ []) ++ spell left ++ spell right
spell (ButNot left right) = (0 ∷ 2 ∷ []) ++ spell left ++ spell right
spell (HasWords text) = (1 ∷ []) ++ counted 2 text
spell (HasText value name) = (2 ∷ []) ++ counted 2 value ++ counted 2 name
spell (HasNumber value most name) =
    (3 ∷ []) ++ little_bytes 4 value ++ (operator most ∷ []) ++ counted 2 name

-- each text fits the length before it
abbrev pub texts_fit : Query → Bool
texts_fit (Both left right) = texts_fit left && texts_fit right
texts_fit (Either left right) = texts_fit left && texts_fit right
texts_fit (ButNot left right) = texts_fit left && texts_fit right
texts_fit (HasWords text) = nat_lt (length text) (2 ^ 16)
texts_fit (HasText value name) = nat_lt (length value) (2 ^ 16) && nat_lt (length name) (2 ^ 16)
texts_fit (HasNumber value most name) = nat_lt (length name) (2 ^ 16)

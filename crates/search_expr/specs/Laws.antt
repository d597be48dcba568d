-- What holds of each expression, whatever writes and reads it.
use Rattle.std.specs.Prelude.{◌≡◌, ◌≤◌, ◌<◌, ◌^◌, ℕ, true, List, ◌++◌, length, drop, Ok}
use Rattle.ed2k_tags.specs.FieldLaws.{IsBytes}
use Rattle.search_expr.specs.Query.{Query, Both, Either, ButNot, HasNumber, depth, nodes}
use Rattle.search_expr.specs.Grammar.{IsExpr}
use Rattle.search_expr.specs.Spelling.{spell, texts_fit}
use Rattle.search_expr.specs.Reading.{read_at}

-- what is spelled within the limits is read, whatever follows
abbrev pub SpelledIsRead : Type 0
SpelledIsRead =
    (e : Query) (text rest : List ℕ) → IsExpr e text → depth e ≤ 64 → nodes e ≤ 512 →
    read_at (text ++ rest) ≡ Ok (e, length text)

-- what the type of an expression keeps: each number has four bytes
abbrev pub IsTyped : Query → Type 0
IsTyped (Both left right) = IsTyped left × IsTyped right
IsTyped (Either left right) = IsTyped left × IsTyped right
IsTyped (ButNot left right) = IsTyped left × IsTyped right
IsTyped (HasNumber value most name) = value < 2 ^ 32
IsTyped _ = Unit {0}

-- what is written is a spelling
abbrev pub WrittenIsSpelled : Type 0
WrittenIsSpelled = (e : Query) → IsTyped e → texts_fit e ≡ true → IsExpr e (spell e)

-- what is read is within the limits
abbrev pub ReadIsWithin : Type 0
ReadIsWithin =
    (bytes : List ℕ) (x : Query × ℕ) → read_at bytes ≡ Ok x → (depth x.0 ≤ 64) × (nodes x.0 ≤ 512)

-- the bytes up to a place spell the expression
pub record IsReadAt (bytes : List ℕ) (e : Query) (place : ℕ) : Type 0 where
  pub text : List ℕ
  pub is : IsExpr e text
  pub ends : place ≡ length text
  pub parts : bytes ≡ text ++ drop place bytes

-- what is read is spelled so
abbrev pub ReadIsSpelled : Type 0
ReadIsSpelled =
    (bytes : List ℕ) (x : Query × ℕ) → IsBytes bytes → read_at bytes ≡ Ok x → IsReadAt bytes x.0 x.1

-- What is written is a spelling, which is read again.
use Rattle.std.proofs.Common.{◌≡◌, ℕ, ◌+◌, ◌-◌, ◌^◌, ◌<◌, ◌≤◌, Bool, true, false, ltb, List, [], ◌∷◌, ◌++◌, length, Ok, refl, sym, ap, ◌∙◌, arith, inl, inr}
use Rattle.std.proofs.lemmas.Bool.{ltb-true}
use Rattle.std.proofs.lemmas.List.{length-append}
use Rattle.ed2k_tags.specs.Fields.{counted}
use Rattle.ed2k_tags.specs.Reading.{◌>>=◌}
use Rattle.byteorder.specs.Endian.{little_bytes}
use Rattle.search_expr.specs.Query.{Query, Both, Either, ButNot, HasWords, HasText, HasNumber, depth, nodes}
use Rattle.search_expr.specs.Grammar.{IsExpr, IsOperator}
use Rattle.search_expr.specs.Spelling.{spell, texts_fit, operator}
use Rattle.search_expr.specs.Reading.{expr_at, front_at, read_at}
use Rattle.search_expr.specs.Laws.{IsTyped, SpelledIsRead, WrittenIsSpelled}
use Rattle.search_expr.proofs.NeedLemmas.{both}
use Rattle.search_expr.proofs.AgainLemmas.{expr_again}

is_operator : (most : Bool) → IsOperator most (operator most)
is_operator true = inl refl
is_operator false = inl refl

pub written : WrittenIsSpelled
written (Both left right) t h = let b = both (texts_fit left) (texts_fit right) h in (spell left, spell right, written left t.0 b.0, written right t.1 b.1, refl)
written (Either left right) t h = let b = both (texts_fit left) (texts_fit right) h in (spell left, spell right, written left t.0 b.0, written right t.1 b.1, refl)
written (ButNot left right) t h = let b = both (texts_fit left) (texts_fit right) h in (spell left, spell right, written left t.0 b.0, written right t.1 b.1, refl)
written (HasWords text) t h = (counted 2 text, (ltb-true _ _ h, refl), refl)
written (HasText value name) t h =
    let b = both (ltb (length value) (2 ^ 16)) (ltb (length name) (2 ^ 16)) h in
    (counted 2 value, counted 2 name, (ltb-true _ _ b.0, refl), (ltb-true _ _ b.1, refl), refl)
written (HasNumber value most name) t h = (little_bytes 4 value, counted 2 name, operator most, (t, refl), is_operator most, (ltb-true _ _ h, refl), refl)

front_again : (end : ℕ) (e : Query) (text rest : List ℕ) → IsExpr e text → depth e ≤ 64 → nodes e ≤ 512 → front_at end (text ++ rest) ≡ Ok (e, rest)
unfolding front_at
front_again end e text rest h d n = rw (expr_again end 64 512 e text rest h d n) refl

pub read_again : SpelledIsRead
unfolding read_at
read_again e text rest h d n =
    let len : length (text ++ rest) - length rest ≡ length text = omega (arith, length-append text rest) in
    rw (front_again (length (text ++ rest)) e text rest h d n) (ap (λ (k : ℕ). Ok (e, k)) len)

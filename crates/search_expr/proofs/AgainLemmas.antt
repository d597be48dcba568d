-- An expression that is spelled is read again.
use Rattle.std.proofs.Common.{◌≡◌, ℕ, zero, suc, ◌+◌, ◌-◌, ◌^◌, ◌<◌, ◌≤◌, Bool, true, false, cond, ltb, List, [], ◌∷◌, ◌++◌, length, Option, Some, None, Ok, Err, refl, sym, ap, ◌∙◌, append_assoc, arith, inl, inr}
use Rattle.std.specs.Prelude.{Result}
use Rattle.std.proofs.lemmas.Bool.{le-ltb}
use Rattle.ed2k_tags.specs.Fields.{number_at, counted_at, counted, or}
use Rattle.ed2k_tags.specs.Reading.{◌>>=◌}
use Rattle.ed2k_tags.specs.FieldLaws.{number_again, counted_again}
use Rattle.byteorder.specs.Endian.{little_bytes}
use Rattle.search_expr.specs.declared.fault.ExprFault.{ExprFault}
use Rattle.search_expr.specs.declared.read.Join.{Join}
use Rattle.search_expr.specs.declared.read.Join.TheVariants as joins
use Rattle.search_expr.specs.declared.read.Leaf.{Leaf}
use Rattle.search_expr.specs.declared.read.Leaf.TheVariants as leaves
use Rattle.search_expr.specs.declared.read.Start.TheVariants as starts
use Rattle.search_expr.specs.Query.{Query, Both, Either, ButNot, HasWords, HasText, HasNumber, joined, depth, nodes}
use Rattle.search_expr.specs.Grammar.{IsExpr, IsOperator}
use Rattle.search_expr.specs.Reading.{start_at, join_at, operator_at, leaf_at, expr_at}
use Rattle.search_expr.proofs.ReadLemmas.{pair_read, leaf_read}

first_again : (first : ℕ) (rest : List ℕ) → number_at 1 (first ∷ rest) ≡ Some (first, rest)
first_again first rest =
    let long : ltb (length (first ∷ rest)) 1 ≡ false = le-ltb _ _ (omega arith) in
    rw long (ap (λ (n : ℕ). Some (n, rest)) (omega arith))

and_again : (end : ℕ) (rest : List ℕ) → start_at end (0 ∷ 0 ∷ rest) ≡ Ok (starts.Join joins.And, rest)
unfolding start_at join_at
and_again end rest = rw (first_again 0 (0 ∷ rest), first_again 0 rest) refl

or_again : (end : ℕ) (rest : List ℕ) → start_at end (0 ∷ 1 ∷ rest) ≡ Ok (starts.Join joins.Or, rest)
unfolding start_at join_at
or_again end rest = rw (first_again 0 (1 ∷ rest), first_again 1 rest) refl

not_again : (end : ℕ) (rest : List ℕ) → start_at end (0 ∷ 2 ∷ rest) ≡ Ok (starts.Join joins.Not, rest)
unfolding start_at join_at
not_again end rest = rw (first_again 0 (2 ∷ rest), first_again 2 rest) refl

word_again : (end : ℕ) (rest : List ℕ) → start_at end (1 ∷ rest) ≡ Ok (starts.Leaf leaves.Word, rest)
unfolding start_at
word_again end rest = rw (first_again 1 rest) refl

text_again : (end : ℕ) (rest : List ℕ) → start_at end (2 ∷ rest) ≡ Ok (starts.Leaf leaves.TagText, rest)
unfolding start_at
text_again end rest = rw (first_again 2 rest) refl

size_again : (end : ℕ) (rest : List ℕ) → start_at end (3 ∷ rest) ≡ Ok (starts.Leaf leaves.Number, rest)
unfolding start_at
size_again end rest = rw (first_again 3 rest) refl

operator_again : (end : ℕ) (most : Bool) (byte : ℕ) (rest : List ℕ) → IsOperator most byte → operator_at end (byte ∷ rest) ≡ Ok (most, rest)
unfolding operator_at
operator_again end true byte rest (inl e) = rw e (rw (first_again 2 rest) refl)
operator_again end true byte rest (inr e) = rw e (rw (first_again 4 rest) refl)
operator_again end false byte rest (inl e) = rw e (rw (first_again 1 rest) refl)
operator_again end false byte rest (inr e) = rw e (rw (first_again 3 rest) refl)

-- two expressions, each of which is read again
pair_again : (end levels room : ℕ) (join : Join) (left right : Query) (bytes behind after rest : List ℕ)
    → start_at end bytes ≡ Ok (starts.Join join, behind)
    → 0 < levels → nodes left + nodes right + 1 ≤ room
    → expr_at end (levels - 1) (room - 1) behind ≡ Ok ((left, room - 1 - nodes left), after)
    → expr_at end (levels - 1) (room - 1 - nodes left) after ≡ Ok ((right, room - 1 - nodes left - nodes right), rest)
    → expr_at end levels room bytes ≡ Ok ((joined join left right, room - (nodes left + nodes right + 1)), rest)
pair_again end levels room join left right bytes behind after rest s l r e f =
    let m : room - (nodes left + nodes right + 1) ≡ room - 1 - nodes left - nodes right = omega arith in
    let pos : 0 < room = omega arith in
    rw m (pair_read end levels room _ _ bytes behind after rest join left right (joined join left right) l pos s e f refl)

words_leaf : (end : ℕ) (t rest : List ℕ) → length t < 256 ^ 2 → leaf_at end leaves.Word (counted 2 t ++ rest) ≡ Ok (HasWords t, rest)
unfolding leaf_at
words_leaf end t rest lt = rw (counted_again 2 t rest lt) refl

text_leaf : (end : ℕ) (value name rest : List ℕ) → length value < 256 ^ 2 → length name < 256 ^ 2 → leaf_at end leaves.TagText (counted 2 value ++ (counted 2 name ++ rest)) ≡ Ok (HasText value name, rest)
unfolding leaf_at
text_leaf end value name rest a b = rw (counted_again 2 value (counted 2 name ++ rest) a, counted_again 2 name rest b) refl

number_leaf : (end value : ℕ) (most : Bool) (byte : ℕ) (name rest : List ℕ) → value < 256 ^ 4 → IsOperator most byte → length name < 256 ^ 2 → leaf_at end leaves.Number (little_bytes 4 value ++ (byte ∷ (counted 2 name ++ rest))) ≡ Ok (HasNumber value most name, rest)
unfolding leaf_at
number_leaf end value most byte name rest a o b = rw (number_again 4 value (byte ∷ (counted 2 name ++ rest)) a, operator_again end most byte (counted 2 name ++ rest) o, counted_again 2 name rest b) refl

pub expr_again : (end levels room : ℕ) (e : Query) (text rest : List ℕ) → IsExpr e text → depth e ≤ levels → nodes e ≤ room → expr_at end levels room (text ++ rest) ≡ Ok ((e, room - nodes e), rest)
expr_again end levels room (Both left right) text rest h d n =
    let whole : text ++ rest ≡ 0 ∷ 0 ∷ (h.0 ++ (h.1 ++ rest)) = ap (λ (x : List ℕ). x ++ rest) h.4 ∙ ap (λ (x : List ℕ). 0 ∷ 0 ∷ x) (append_assoc h.0 h.1 rest) in
    pair_again end levels room joins.And left right (text ++ rest) (h.0 ++ (h.1 ++ rest)) (h.1 ++ rest) rest (ap (start_at end) whole ∙ and_again end _) (omega (arith, d)) n
    (expr_again end (levels - 1) (room - 1) left h.0 (h.1 ++ rest) h.2 (omega (arith, d)) (omega (arith, n)))
    (expr_again end (levels - 1) (room - 1 - nodes left) right h.1 rest h.3 (omega (arith, d)) (omega (arith, n)))
expr_again end levels room (Either left right) text rest h d n =
    let whole : text ++ rest ≡ 0 ∷ 1 ∷ (h.0 ++ (h.1 ++ rest)) = ap (λ (x : List ℕ). x ++ rest) h.4 ∙ ap (λ (x : List ℕ). 0 ∷ 1 ∷ x) (append_assoc h.0 h.1 rest) in
    pair_again end levels room joins.Or left right (text ++ rest) (h.0 ++ (h.1 ++ rest)) (h.1 ++ rest) rest (ap (start_at end) whole ∙ or_again end _) (omega (arith, d)) n
    (expr_again end (levels - 1) (room - 1) left h.0 (h.1 ++ rest) h.2 (omega (arith, d)) (omega (arith, n)))
    (expr_again end (levels - 1) (room - 1 - nodes left) right h.1 rest h.3 (omega (arith, d)) (omega (arith, n)))
expr_again end levels room (ButNot left right) text rest h d n =
    let whole : text ++ rest ≡ 0 ∷ 2 ∷ (h.0 ++ (h.1 ++ rest)) = ap (λ (x : List ℕ). x ++ rest) h.4 ∙ ap (λ (x : List ℕ). 0 ∷ 2 ∷ x) (append_assoc h.0 h.1 rest) in
    pair_again end levels room joins.Not left right (text ++ rest) (h.0 ++ (h.1 ++ rest)) (h.1 ++ rest) rest (ap (start_at end) whole ∙ not_again end _) (omega (arith, d)) n
    (expr_again end (levels - 1) (room - 1) left h.0 (h.1 ++ rest) h.2 (omega (arith, d)) (omega (arith, n)))
    (expr_again end (levels - 1) (room - 1 - nodes left) right h.1 rest h.3 (omega (arith, d)) (omega (arith, n)))
expr_again end levels room (HasWords t) text rest h d n =
    let whole : text ++ rest ≡ 1 ∷ (counted 2 t ++ rest) = ap (λ (x : List ℕ). x ++ rest) h.2 ∙ ap (λ (x : List ℕ). 1 ∷ (x ++ rest)) h.1.1 in
    leaf_read end levels room leaves.Word (HasWords t) (text ++ rest) (counted 2 t ++ rest) rest (omega (arith, d)) (omega (arith, n)) (ap (start_at end) whole ∙ word_again end _) (words_leaf end t rest h.1.0)
expr_again end levels room (HasText value name) text rest h d n =
    let whole : text ++ rest ≡ 2 ∷ (counted 2 value ++ (counted 2 name ++ rest)) = ap (λ (x : List ℕ). x ++ rest) h.4 ∙ ap (λ (x : List ℕ). 2 ∷ x) (append_assoc h.0 h.1 rest) ∙ ap (λ (x : List ℕ). 2 ∷ (x ++ (h.1 ++ rest))) h.2.1 ∙ ap (λ (x : List ℕ). 2 ∷ (counted 2 value ++ (x ++ rest))) h.3.1 in
    leaf_read end levels room leaves.TagText (HasText value name) (text ++ rest) (counted 2 value ++ (counted 2 name ++ rest)) rest (omega (arith, d)) (omega (arith, n)) (ap (start_at end) whole ∙ text_again end _) (text_leaf end value name rest h.2.0 h.3.0)
expr_again end levels room (HasNumber value most name) text rest h d n =
    let whole : text ++ rest ≡ 3 ∷ (little_bytes 4 value ++ (h.2 ∷ (counted 2 name ++ rest))) = ap (λ (x : List ℕ). x ++ rest) h.6 ∙ ap (λ (x : List ℕ). 3 ∷ x) (append_assoc h.0 (h.2 ∷ h.1) rest) ∙ ap (λ (x : List ℕ). 3 ∷ (x ++ (h.2 ∷ (h.1 ++ rest)))) h.3.1 ∙ ap (λ (x : List ℕ). 3 ∷ (little_bytes 4 value ++ (h.2 ∷ (x ++ rest)))) h.5.1 in
    leaf_read end levels room leaves.Number (HasNumber value most name) (text ++ rest) (little_bytes 4 value ++ (h.2 ∷ (counted 2 name ++ rest))) rest (omega (arith, d)) (omega (arith, n)) (ap (start_at end) whole ∙ size_again end _) (number_leaf end value most h.2 name rest h.3.0 h.4 h.5.0)

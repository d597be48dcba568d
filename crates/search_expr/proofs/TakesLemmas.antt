-- What is read is spelled so.
use Rattle.std.proofs.Common.{◌≡◌, ℕ, zero, suc, ◌+◌, ◌-◌, ◌≤◌, Bool, true, false, cond, List, [], ◌∷◌, ◌++◌, length, drop, take, Option, Some, None, Ok, Err, refl, sym, ap, subst, ◌∙◌, append_assoc, arith, inl, inr}
use Rattle.std.specs.Prelude.{Result, ◌⊎◌, ◌==◌, ◌||◌}
use Rattle.std.proofs.lemmas.Bool.{eqb-true}
use Rattle.byteorder.specs.Endian.{little_bytes}
use Rattle.ed2k_tags.specs.Fields.{number_at, counted_at, or}
use Rattle.ed2k_tags.specs.Reading.{◌>>=◌}
use Rattle.ed2k_tags.specs.FieldLaws.{IsBytes, Takes, one, two, four, number_takes, counted_takes}
use Rattle.search_expr.specs.declared.fault.ExprFault.{ExprFault}
use Rattle.search_expr.specs.declared.fault.ExprFault.TheVariants.{Cut, BadOp}
use Rattle.search_expr.specs.declared.read.Join.{Join}
use Rattle.search_expr.specs.declared.read.Join.TheVariants as joins
use Rattle.search_expr.specs.declared.read.Leaf.{Leaf}
use Rattle.search_expr.specs.declared.read.Leaf.TheVariants as leaves
use Rattle.search_expr.specs.declared.read.Start.{Start}
use Rattle.search_expr.specs.declared.read.Start.TheVariants as starts
use Rattle.search_expr.specs.Query.{Query, HasWords, HasText, HasNumber, joined}
use Rattle.search_expr.specs.Grammar.{IsExpr, IsOperator}
use Rattle.search_expr.specs.Reading.{start_at, join_at, operator_at, leaf_at, by_start, expr_at, front_at, read_at}
use Rattle.std.proofs.lemmas.List.{length-append, drop_at}
use Rattle.search_expr.specs.Laws.{IsReadAt, ReadIsSpelled}
use Rattle.search_expr.proofs.LimitLemmas.{bind_ok, started, done}

some_of : {A : Type 0} (o : Option A) (x : A) → or Cut o ≡ Ok x → o ≡ Some x
some_of None x e = absurd cc
some_of (Some y) x e = ap (λ a. Some a) (done y x e)

chosen : {A : Type 0} (b : Bool) (x y : Result A ExprFault) (z : A) → cond b x y ≡ Ok z → ((b ≡ true) × (x ≡ Ok z)) ⊎ ((b ≡ false) × (y ≡ Ok z))
chosen true x y z e = inl (refl, e)
chosen false x y z e = inr (refl, e)

-- this byte
abbrev IsByte : ℕ → List ℕ → Type 0
IsByte n text = text ≡ n ∷ []

byte_takes : (bytes : List ℕ) (n : ℕ) (rest : List ℕ) → IsBytes bytes → or Cut (number_at 1 bytes) ≡ Ok (n, rest) → Takes (IsByte n) bytes rest
byte_takes bytes n rest fits e =
    let t = number_takes 1 one bytes n rest fits (some_of (number_at 1 bytes) (n, rest) e) in
    let byte : little_bytes 1 n ≡ n ∷ [] = ap (λ (x : ℕ). x ∷ []) (omega (arith, t.is.0)) in
    record { text = n ∷ []; is = refl; parts = t.parts ∙ ap (λ (x : List ℕ). x ++ rest) (t.is.1 ∙ byte); rest_fits = t.rest_fits }

abbrev start_bytes : Start → List ℕ
start_bytes (starts.Join joins.And) = 0 ∷ 0 ∷ []
start_bytes (starts.Join joins.Or) = 0 ∷ 1 ∷ []
start_bytes (starts.Join joins.Not) = 0 ∷ 2 ∷ []
start_bytes (starts.Leaf leaves.Word) = 1 ∷ []
start_bytes (starts.Leaf leaves.TagText) = 2 ∷ []
start_bytes (starts.Leaf leaves.Number) = 3 ∷ []

-- what is left of a start behind its front
abbrev Starts : List ℕ → Start → List ℕ → Type 0
Starts front s text = front ++ text ≡ start_bytes s

made : (front bytes rest : List ℕ) (n k : ℕ) (s : Start) (x : Start × List ℕ) → Takes (IsByte n) bytes rest → (n == k) ≡ true → front ++ k ∷ [] ≡ start_bytes s → (s, rest) ≡ x → Takes (Starts front x.0) bytes x.1
made front bytes rest n k s x t e f g =
    let it : Takes (Starts front s) bytes rest = record { text = t.text; is = ap (λ (u : List ℕ). front ++ u) t.is ∙ ap (λ (m : ℕ). front ++ m ∷ []) (eqb-true n k e) ∙ f; parts = t.parts; rest_fits = t.rest_fits } in
    subst (λ (z : Start × List ℕ). Takes (Starts front z.0) bytes z.1) g it

unfoldable join_chain : (end n : ℕ) (bytes rest : List ℕ) → Result (Start × List ℕ) ExprFault
join_chain end n bytes rest = cond (n == 0) (Ok (starts.Join joins.And, rest)) (cond (n == 1) (Ok (starts.Join joins.Or, rest)) (cond (n == 2) (Ok (starts.Join joins.Not, rest)) (Err (BadOp (end - length bytes)))))

join_takes : (end : ℕ) (bytes : List ℕ) (x : Start × List ℕ) → IsBytes bytes → join_at end bytes ≡ Ok x → Takes (Starts (0 ∷ []) x.0) bytes x.1
unfolding join_at join_chain
join_takes end bytes x fits e =
    let a = bind_ok (or Cut (number_at 1 bytes)) (λ join. join_chain end join.0 bytes join.1) x e in
    let t = byte_takes bytes a.0.0 a.0.1 fits a.1 in
    let third : Result (Start × List ℕ) ExprFault = cond (a.0.0 == 2) (Ok (starts.Join joins.Not, a.0.1)) (Err (BadOp (end - length bytes))) in
    let second : Result (Start × List ℕ) ExprFault = cond (a.0.0 == 1) (Ok (starts.Join joins.Or, a.0.1)) third in
    elim (chosen (a.0.0 == 0) (Ok (starts.Join joins.And, a.0.1)) second x a.2) [
      | inl h ↦ made (0 ∷ []) bytes a.0.1 a.0.0 0 (starts.Join joins.And) x t h.0 refl (done (starts.Join joins.And, a.0.1) x h.1)
      | inr h ↦ elim (chosen (a.0.0 == 1) (Ok (starts.Join joins.Or, a.0.1)) third x h.1) [
        | inl i ↦ made (0 ∷ []) bytes a.0.1 a.0.0 1 (starts.Join joins.Or) x t i.0 refl (done (starts.Join joins.Or, a.0.1) x i.1)
        | inr i ↦ elim (chosen (a.0.0 == 2) (Ok (starts.Join joins.Not, a.0.1)) (Err (BadOp (end - length bytes))) x i.1) [
          | inl j ↦ made (0 ∷ []) bytes a.0.1 a.0.0 2 (starts.Join joins.Not) x t j.0 refl (done (starts.Join joins.Not, a.0.1) x j.1)
          | inr j ↦ absurd (no_err (BadOp (end - length bytes)) x j.1)
        ]
      ]
    ]
  where
    no_err : (d : ExprFault) (x : Start × List ℕ) → (let r : Result (Start × List ℕ) ExprFault = Err d in r) ≡ Ok x → ⊥
    no_err d x e = cc

unfoldable start_chain : (end n : ℕ) (bytes rest : List ℕ) → Result (Start × List ℕ) ExprFault
start_chain end n bytes rest = cond (n == 0) (join_at end rest) (cond (n == 1) (Ok (starts.Leaf leaves.Word, rest)) (cond (n == 2) (Ok (starts.Leaf leaves.TagText, rest)) (cond (n == 3) (Ok (starts.Leaf leaves.Number, rest)) (Err (BadOp (end - length bytes))))))

start_takes : (end : ℕ) (bytes : List ℕ) (x : Start × List ℕ) → IsBytes bytes → start_at end bytes ≡ Ok x → Takes (Starts [] x.0) bytes x.1
unfolding start_at start_chain
start_takes end bytes x fits e =
    let a = bind_ok (or Cut (number_at 1 bytes)) (λ first. start_chain end first.0 bytes first.1) x e in
    let t = byte_takes bytes a.0.0 a.0.1 fits a.1 in
    let fourth : Result (Start × List ℕ) ExprFault = cond (a.0.0 == 3) (Ok (starts.Leaf leaves.Number, a.0.1)) (Err (BadOp (end - length bytes))) in
    let third : Result (Start × List ℕ) ExprFault = cond (a.0.0 == 2) (Ok (starts.Leaf leaves.TagText, a.0.1)) fourth in
    let second : Result (Start × List ℕ) ExprFault = cond (a.0.0 == 1) (Ok (starts.Leaf leaves.Word, a.0.1)) third in
    elim (chosen (a.0.0 == 0) (join_at end a.0.1) second x a.2) [
      | inl h ↦
          let j = join_takes end a.0.1 x t.rest_fits h.1 in
          let zero_is : t.text ≡ 0 ∷ [] = t.is ∙ ap (λ (n : ℕ). n ∷ []) (eqb-true a.0.0 0 h.0) in
          record { text = 0 ∷ j.text; is = j.is; parts = t.parts ∙ ap (λ (u : List ℕ). u ++ a.0.1) zero_is ∙ ap (λ (u : List ℕ). 0 ∷ u) j.parts; rest_fits = j.rest_fits }
      | inr h ↦ elim (chosen (a.0.0 == 1) (Ok (starts.Leaf leaves.Word, a.0.1)) third x h.1) [
        | inl i ↦ made [] bytes a.0.1 a.0.0 1 (starts.Leaf leaves.Word) x t i.0 refl (done (starts.Leaf leaves.Word, a.0.1) x i.1)
        | inr i ↦ elim (chosen (a.0.0 == 2) (Ok (starts.Leaf leaves.TagText, a.0.1)) fourth x i.1) [
          | inl j ↦ made [] bytes a.0.1 a.0.0 2 (starts.Leaf leaves.TagText) x t j.0 refl (done (starts.Leaf leaves.TagText, a.0.1) x j.1)
          | inr j ↦ elim (chosen (a.0.0 == 3) (Ok (starts.Leaf leaves.Number, a.0.1)) (Err (BadOp (end - length bytes))) x j.1) [
            | inl k ↦ made [] bytes a.0.1 a.0.0 3 (starts.Leaf leaves.Number) x t k.0 refl (done (starts.Leaf leaves.Number, a.0.1) x k.1)
            | inr k ↦ absurd (no_err (BadOp (end - length bytes)) x k.1)
          ]
        ]
      ]
    ]
  where
    no_err : (d : ExprFault) (x : Start × List ℕ) → (let r : Result (Start × List ℕ) ExprFault = Err d in r) ≡ Ok x → ⊥
    no_err d x e = cc

either : (a b : Bool) → (a || b) ≡ true → (a ≡ true) ⊎ (b ≡ true)
either true b e = inl refl
either false b e = inr e

least : (n : ℕ) → (n == 1 || n == 3) ≡ true → IsOperator false n
least n e = elim (either (n == 1) (n == 3) e) [ inl h ↦ inl (eqb-true n 1 h) | inr h ↦ inr (eqb-true n 3 h) ]

most : (n : ℕ) → (n == 2 || n == 4) ≡ true → IsOperator true n
most n e = elim (either (n == 2) (n == 4) e) [ inl h ↦ inl (eqb-true n 2 h) | inr h ↦ inr (eqb-true n 4 h) ]

-- the byte of an operator
abbrev Operates : Bool → List ℕ → Type 0
Operates b text = (n : ℕ) × IsOperator b n × (text ≡ n ∷ [])

operates : (bytes rest : List ℕ) (n : ℕ) (b : Bool) (x : Bool × List ℕ) → Takes (IsByte n) bytes rest → IsOperator b n → (b, rest) ≡ x → Takes (Operates x.0) bytes x.1
operates bytes rest n b x t o g =
    let it : Takes (Operates b) bytes rest = record { text = t.text; is = (n, o, t.is); parts = t.parts; rest_fits = t.rest_fits } in
    subst (λ (z : Bool × List ℕ). Takes (Operates z.0) bytes z.1) g it

operator_takes : (end : ℕ) (bytes : List ℕ) (x : Bool × List ℕ) → IsBytes bytes → operator_at end bytes ≡ Ok x → Takes (Operates x.0) bytes x.1
unfolding operator_at
operator_takes end bytes x fits e =
    let a = bind_ok (or Cut (number_at 1 bytes)) (λ operator. cond (operator.0 == 1 || operator.0 == 3) (Ok (false, operator.1)) (cond (operator.0 == 2 || operator.0 == 4) (Ok (true, operator.1)) (Err (BadOp (end - length bytes))))) x e in
    let t = byte_takes bytes a.0.0 a.0.1 fits a.1 in
    elim (chosen (a.0.0 == 1 || a.0.0 == 3) (Ok (false, a.0.1)) (cond (a.0.0 == 2 || a.0.0 == 4) (Ok (true, a.0.1)) (Err (BadOp (end - length bytes)))) x a.2) [
      | inl h ↦ operates bytes a.0.1 a.0.0 false x t (least a.0.0 h.0) (done (false, a.0.1) x h.1)
      | inr h ↦ elim (chosen (a.0.0 == 2 || a.0.0 == 4) (Ok (true, a.0.1)) (Err (BadOp (end - length bytes))) x h.1) [
        | inl i ↦ operates bytes a.0.1 a.0.0 true x t (most a.0.0 i.0) (done (true, a.0.1) x i.1)
        | inr i ↦ absurd (no_err (BadOp (end - length bytes)) x i.1)
      ]
    ]
  where
    no_err : (d : ExprFault) (x : Bool × List ℕ) → (let r : Result (Bool × List ℕ) ExprFault = Err d in r) ≡ Ok x → ⊥
    no_err d x e = cc

-- an expression without its first bytes
abbrev IsBehind : Start → Query → List ℕ → Type 0
IsBehind s e text = IsExpr e (start_bytes s ++ text)

leaf_moved : (leaf : Leaf) (bytes : List ℕ) (x y : Query × List ℕ) → x ≡ y → Takes (IsBehind (starts.Leaf leaf) x.0) bytes x.1 → Takes (IsBehind (starts.Leaf leaf) y.0) bytes y.1
leaf_moved leaf bytes x y g t = subst (λ (z : Query × List ℕ). Takes (IsBehind (starts.Leaf leaf) z.0) bytes z.1) g t

leaf_takes : (end : ℕ) (leaf : Leaf) (bytes : List ℕ) (x : Query × List ℕ) → IsBytes bytes → leaf_at end leaf bytes ≡ Ok x → Takes (IsBehind (starts.Leaf leaf) x.0) bytes x.1
unfolding leaf_at
leaf_takes end leaves.Word bytes x fits e =
    let a = bind_ok (or Cut (counted_at 2 bytes)) (λ text. Ok (HasWords text.0, text.1)) x e in
    let t = counted_takes 2 two bytes a.0.0 a.0.1 fits (some_of (counted_at 2 bytes) a.0 a.1) in
    leaf_moved leaves.Word bytes (HasWords a.0.0, a.0.1) x (done (HasWords a.0.0, a.0.1) x a.2)
    (record { text = t.text; is = (t.text, t.is, refl); parts = t.parts; rest_fits = t.rest_fits })
leaf_takes end leaves.TagText bytes x fits e =
    let a = bind_ok (or Cut (counted_at 2 bytes)) (λ value. or Cut (counted_at 2 value.1) >>= λ name. Ok (HasText value.0 name.0, name.1)) x e in
    let b = bind_ok (or Cut (counted_at 2 a.0.1)) (λ name. Ok (HasText a.0.0 name.0, name.1)) x a.2 in
    let t = counted_takes 2 two bytes a.0.0 a.0.1 fits (some_of (counted_at 2 bytes) a.0 a.1) in
    let u = counted_takes 2 two a.0.1 b.0.0 b.0.1 t.rest_fits (some_of (counted_at 2 a.0.1) b.0 b.1) in
    leaf_moved leaves.TagText bytes (HasText a.0.0 b.0.0, b.0.1) x (done (HasText a.0.0 b.0.0, b.0.1) x b.2)
    (record { text = t.text ++ u.text; is = (t.text, u.text, t.is, u.is, refl); parts = t.parts ∙ ap (λ (r : List ℕ). t.text ++ r) u.parts ∙ sym (append_assoc t.text u.text b.0.1); rest_fits = u.rest_fits })
leaf_takes end leaves.Number bytes x fits e =
    let a = bind_ok (or Cut (number_at 4 bytes)) (λ value. operator_at end value.1 >>= λ most. or Cut (counted_at 2 most.1) >>= λ name. Ok (HasNumber value.0 most.0 name.0, name.1)) x e in
    let b = bind_ok (operator_at end a.0.1) (λ most. or Cut (counted_at 2 most.1) >>= λ name. Ok (HasNumber a.0.0 most.0 name.0, name.1)) x a.2 in
    let d = bind_ok (or Cut (counted_at 2 b.0.1)) (λ name. Ok (HasNumber a.0.0 b.0.0 name.0, name.1)) x b.2 in
    let t = number_takes 4 four bytes a.0.0 a.0.1 fits (some_of (number_at 4 bytes) a.0 a.1) in
    let o = operator_takes end a.0.1 b.0 t.rest_fits b.1 in
    let u = counted_takes 2 two b.0.1 d.0.0 d.0.1 o.rest_fits (some_of (counted_at 2 b.0.1) d.0 d.1) in
    leaf_moved leaves.Number bytes (HasNumber a.0.0 b.0.0 d.0.0, d.0.1) x (done (HasNumber a.0.0 b.0.0 d.0.0, d.0.1) x d.2)
    (record {
      text = t.text ++ o.is.0 ∷ u.text;
      is = (t.text, u.text, o.is.0, t.is, o.is.1, u.is, refl);
      parts = t.parts ∙ ap (λ (r : List ℕ). t.text ++ r) (o.parts ∙ ap (λ (r : List ℕ). r ++ b.0.1) o.is.2 ∙ ap (λ (r : List ℕ). o.is.0 ∷ r) u.parts) ∙ sym (append_assoc t.text (o.is.0 ∷ u.text) d.0.1);
      rest_fits = u.rest_fits;
    })

joined_is : (join : Join) (left right : Query) (a b : List ℕ) → IsExpr left a → IsExpr right b → IsBehind (starts.Join join) (joined join left right) (a ++ b)
joined_is joins.And left right a b h k = (a, b, h, k, refl)
joined_is joins.Or left right a b h k = (a, b, h, k, refl)
joined_is joins.Not left right a b h k = (a, b, h, k, refl)

-- the whole of a start and of what is behind it
whole_takes : (s t : Start) (e : Query) (bytes middle rest : List ℕ) → s ≡ t → Takes (Starts [] s) bytes middle → Takes (IsBehind t e) middle rest → Takes (IsExpr e) bytes rest
whole_takes s t e bytes middle rest g a b =
    let front : a.text ≡ start_bytes t = a.is ∙ ap start_bytes g in
    record { text = start_bytes t ++ b.text; is = b.is; parts = a.parts ∙ ap (λ (u : List ℕ). u ++ middle) front ∙ ap (λ (r : List ℕ). start_bytes t ++ r) b.parts ∙ sym (append_assoc (start_bytes t) b.text rest); rest_fits = b.rest_fits }

moved : (bytes : List ℕ) (x y : (Query × ℕ) × List ℕ) → x ≡ y → Takes (IsExpr x.0.0) bytes x.1 → Takes (IsExpr y.0.0) bytes y.1
moved bytes x y g t = subst (λ (z : (Query × ℕ) × List ℕ). Takes (IsExpr z.0.0) bytes z.1) g t

pub expr_takes : (end levels room : ℕ) (bytes : List ℕ) (x : (Query × ℕ) × List ℕ) → IsBytes bytes → expr_at end levels room bytes ≡ Ok x → Takes (IsExpr x.0.0) bytes x.1
unfolding expr_at
expr_takes end levels zero bytes x fits e = absurd cc
expr_takes end zero (suc room) bytes x fits e = absurd cc
expr_takes end (suc levels) (suc room) bytes x fits e =
    let pair : List ℕ → Join → Result ((Query × ℕ) × List ℕ) ExprFault = λ rest join. expr_at end levels room rest >>= λ left. expr_at end levels left.0.1 left.1 >>= λ right. Ok ((joined join left.0.0 right.0.0, right.0.1), right.1) in
    let leaf : List ℕ → Leaf → Result ((Query × ℕ) × List ℕ) ExprFault = λ rest leaf. leaf_at end leaf rest >>= λ read. Ok ((read.0, room), read.1) in
    let a = bind_ok (start_at end bytes) (λ start. by_start (pair start.1) (leaf start.1) start.0) x e in
    let s = start_takes end bytes a.0 fits a.1 in
    elim (started (pair a.0.1) (leaf a.0.1) a.0.0 x a.2) [
      | inl p ↦
          let l = bind_ok (expr_at end levels room a.0.1) (λ left. expr_at end levels left.0.1 left.1 >>= λ right. Ok ((joined p.0 left.0.0 right.0.0, right.0.1), right.1)) x p.2 in
          let r = bind_ok (expr_at end levels l.0.0.1 l.0.1) (λ right. Ok ((joined p.0 l.0.0.0 right.0.0, right.0.1), right.1)) x l.2 in
          let tl = expr_takes end levels room a.0.1 l.0 s.rest_fits l.1 in
          let tr = expr_takes end levels l.0.0.1 l.0.1 r.0 tl.rest_fits r.1 in
          let both : Takes (IsBehind (starts.Join p.0) (joined p.0 l.0.0.0 r.0.0.0)) a.0.1 r.0.1 = record { text = tl.text ++ tr.text; is = joined_is p.0 l.0.0.0 r.0.0.0 tl.text tr.text tl.is tr.is; parts = tl.parts ∙ ap (λ (u : List ℕ). tl.text ++ u) tr.parts ∙ sym (append_assoc tl.text tr.text r.0.1); rest_fits = tr.rest_fits } in
          moved bytes ((joined p.0 l.0.0.0 r.0.0.0, r.0.0.1), r.0.1) x (done ((joined p.0 l.0.0.0 r.0.0.0, r.0.0.1), r.0.1) x r.2)
          (whole_takes a.0.0 (starts.Join p.0) (joined p.0 l.0.0.0 r.0.0.0) bytes a.0.1 r.0.1 p.1 s both)
      | inr p ↦
          let l = bind_ok (leaf_at end p.0 a.0.1) (λ read. Ok ((read.0, room), read.1)) x p.2 in
          let t = leaf_takes end p.0 a.0.1 l.0 s.rest_fits l.1 in
          moved bytes ((l.0.0, room), l.0.1) x (done ((l.0.0, room), l.0.1) x l.2)
          (whole_takes a.0.0 (starts.Leaf p.0) l.0.0 bytes a.0.1 l.0.1 p.1 s t)
    ]

front_takes : (end : ℕ) (bytes : List ℕ) (x : Query × List ℕ) → IsBytes bytes → front_at end bytes ≡ Ok x → Takes (IsExpr x.0) bytes x.1
unfolding front_at
front_takes end bytes x fits e =
    let a = bind_ok (expr_at end 64 512 bytes) (λ read. Ok (read.0.0, read.1)) x e in
    subst (λ (z : Query × List ℕ). Takes (IsExpr z.0) bytes z.1) (done (a.0.0.0, a.0.1) x a.2) (expr_takes end 64 512 bytes a.0 fits a.1)

pub read_spelled : ReadIsSpelled
unfolding read_at
read_spelled bytes x fits e =
    let a = bind_ok (front_at (length bytes) bytes) (λ read. Ok (read.0, length bytes - length read.1)) x e in
    let t = front_takes (length bytes) bytes a.0 fits a.1 in
    let place : length bytes - length a.0.1 ≡ length t.text = omega (arith, ap length t.parts, length-append t.text a.0.1) in
    let rest : drop (length bytes - length a.0.1) bytes ≡ a.0.1 = ap (λ (k : ℕ). drop k bytes) place ∙ ap (drop (length t.text)) t.parts ∙ drop_at t.text a.0.1 (length t.text) refl in
    let it : IsReadAt bytes a.0.0 (length bytes - length a.0.1) = record { text = t.text; is = t.is; ends = place; parts = t.parts ∙ ap (λ (r : List ℕ). t.text ++ r) (sym rest) } in
    subst (λ (z : Query × ℕ). IsReadAt bytes z.0 z.1) (done (a.0.0, length bytes - length a.0.1) x a.2) it

-- What is read is within the limits.
use Rattle.std.proofs.Common.{◌≡◌, ℕ, zero, suc, ◌+◌, ◌-◌, ◌≤◌, List, Option, Some, None, Ok, Err, refl, sym, ap, subst, ◌∙◌, arith, inl, inr}
use Rattle.std.specs.Prelude.{Result, length, ◌⊎◌}
use Rattle.ed2k_tags.specs.Fields.{number_at, counted_at, or}
use Rattle.ed2k_tags.specs.Reading.{◌>>=◌}
use Rattle.search_expr.specs.declared.fault.ExprFault.{ExprFault}
use Rattle.search_expr.specs.declared.fault.ExprFault.TheVariants.{Cut}
use Rattle.search_expr.specs.declared.read.Join.{Join}
use Rattle.search_expr.specs.declared.read.Join.TheVariants as joins
use Rattle.search_expr.specs.declared.read.Leaf.{Leaf}
use Rattle.search_expr.specs.declared.read.Leaf.TheVariants as leaves
use Rattle.search_expr.specs.declared.read.Start.{Start}
use Rattle.search_expr.specs.declared.read.Start.TheVariants as starts
use Rattle.search_expr.specs.Query.{Query, HasWords, HasText, HasNumber, joined, depth, nodes}
use Rattle.search_expr.specs.Laws.{ReadIsWithin}
use Rattle.search_expr.specs.Reading.{start_at, operator_at, leaf_at, by_start, expr_at, front_at, read_at}

pub bind_ok : {A B : Type 0} (r : Result A ExprFault) (f : A → Result B ExprFault) (y : B) → (r >>= f) ≡ Ok y → (x : A) × (r ≡ Ok x) × (f x ≡ Ok y)
bind_ok (Ok x) f y e = (x, refl, e)
bind_ok (Err d) f y e = absurd cc

pub started : {B : Type 0} (f : Join → Result B ExprFault) (g : Leaf → Result B ExprFault) (s : Start) (y : B) → by_start f g s ≡ Ok y
    → ((j : Join) × (s ≡ starts.Join j) × (f j ≡ Ok y)) ⊎ ((l : Leaf) × (s ≡ starts.Leaf l) × (g l ≡ Ok y))
started f g (starts.Join j) y e = inl (j, refl, e)
started f g (starts.Leaf l) y e = inr (l, refl, e)

-- at most so many levels, and so many nodes of those that there was room for
pub record IsWithin (levels room : ℕ) (e : Query) (left : ℕ) : Type 0 where
  pub deep : depth e ≤ levels
  pub many : nodes e + left ≡ room

pub record IsOne (e : Query) : Type 0 where
  pub deep : depth e ≡ 1
  pub many : nodes e ≡ 1

pub done : {A : Type 0} (x y : A) → (let r : Result A ExprFault = Ok x in r) ≡ Ok y → x ≡ y
done x y e = cc

one_moved : (x y : Query × List ℕ) → IsOne x.0 → x ≡ y → IsOne y.0
one_moved x y h e = subst (λ (z : Query × List ℕ). IsOne z.0) e h

leaf_one : (end : ℕ) (leaf : Leaf) (bytes : List ℕ) (x : Query × List ℕ) → leaf_at end leaf bytes ≡ Ok x → IsOne x.0
unfolding leaf_at
leaf_one end leaves.Word bytes x e =
    let a = bind_ok (or Cut (counted_at 2 bytes)) (λ text. Ok (HasWords text.0, text.1)) x e in
    one_moved (HasWords a.0.0, a.0.1) x (record { deep = refl; many = refl }) (done (HasWords a.0.0, a.0.1) x a.2)
leaf_one end leaves.TagText bytes x e =
    let a = bind_ok (or Cut (counted_at 2 bytes)) (λ value. or Cut (counted_at 2 value.1) >>= λ name. Ok (HasText value.0 name.0, name.1)) x e in
    let b = bind_ok (or Cut (counted_at 2 a.0.1)) (λ name. Ok (HasText a.0.0 name.0, name.1)) x a.2 in
    one_moved (HasText a.0.0 b.0.0, b.0.1) x (record { deep = refl; many = refl }) (done (HasText a.0.0 b.0.0, b.0.1) x b.2)
leaf_one end leaves.Number bytes x e =
    let a = bind_ok (or Cut (number_at 4 bytes)) (λ value. operator_at end value.1 >>= λ most. or Cut (counted_at 2 most.1) >>= λ name. Ok (HasNumber value.0 most.0 name.0, name.1)) x e in
    let b = bind_ok (operator_at end a.0.1) (λ most. or Cut (counted_at 2 most.1) >>= λ name. Ok (HasNumber a.0.0 most.0 name.0, name.1)) x a.2 in
    let d = bind_ok (or Cut (counted_at 2 b.0.1)) (λ name. Ok (HasNumber a.0.0 b.0.0 name.0, name.1)) x b.2 in
    one_moved (HasNumber a.0.0 b.0.0 d.0.0, d.0.1) x (record { deep = refl; many = refl }) (done (HasNumber a.0.0 b.0.0 d.0.0, d.0.1) x d.2)

joined_within : (levels room more most : ℕ) (join : Join) (left right : Query) → IsWithin levels room left more → IsWithin levels more right most → IsWithin (suc levels) (suc room) (joined join left right) most
joined_within levels room more most joins.And left right h k = record { deep = omega (arith, h.deep, k.deep); many = omega (arith, h.many, k.many) }
joined_within levels room more most joins.Or left right h k = record { deep = omega (arith, h.deep, k.deep); many = omega (arith, h.many, k.many) }
joined_within levels room more most joins.Not left right h k = record { deep = omega (arith, h.deep, k.deep); many = omega (arith, h.many, k.many) }

moved : (levels room : ℕ) (x y : (Query × ℕ) × List ℕ) → IsWithin levels room x.0.0 x.0.1 → x ≡ y → IsWithin levels room y.0.0 y.0.1
moved levels room x y h e = subst (λ (z : (Query × ℕ) × List ℕ). IsWithin levels room z.0.0 z.0.1) e h

pub expr_within : (end levels room : ℕ) (bytes : List ℕ) (x : (Query × ℕ) × List ℕ) → expr_at end levels room bytes ≡ Ok x → IsWithin levels room x.0.0 x.0.1
unfolding expr_at
expr_within end levels zero bytes x e = absurd cc
expr_within end zero (suc room) bytes x e = absurd cc
expr_within end (suc levels) (suc room) bytes x e =
    let pair : List ℕ → Join → Result ((Query × ℕ) × List ℕ) ExprFault = λ rest join. expr_at end levels room rest >>= λ left. expr_at end levels left.0.1 left.1 >>= λ right. Ok ((joined join left.0.0 right.0.0, right.0.1), right.1) in
    let leaf : List ℕ → Leaf → Result ((Query × ℕ) × List ℕ) ExprFault = λ rest leaf. leaf_at end leaf rest >>= λ read. Ok ((read.0, room), read.1) in
    let a = bind_ok (start_at end bytes) (λ start. by_start (pair start.1) (leaf start.1) start.0) x e in
    elim (started (pair a.0.1) (leaf a.0.1) a.0.0 x a.2) [
      | inl p ↦
          let l = bind_ok (expr_at end levels room a.0.1) (λ left. expr_at end levels left.0.1 left.1 >>= λ right. Ok ((joined p.0 left.0.0 right.0.0, right.0.1), right.1)) x p.2 in
          let r = bind_ok (expr_at end levels l.0.0.1 l.0.1) (λ right. Ok ((joined p.0 l.0.0.0 right.0.0, right.0.1), right.1)) x l.2 in
          moved (suc levels) (suc room) ((joined p.0 l.0.0.0 r.0.0.0, r.0.0.1), r.0.1) x
          (joined_within levels room l.0.0.1 r.0.0.1 p.0 l.0.0.0 r.0.0.0 (expr_within end levels room a.0.1 l.0 l.1) (expr_within end levels l.0.0.1 l.0.1 r.0 r.1))
          (done ((joined p.0 l.0.0.0 r.0.0.0, r.0.0.1), r.0.1) x r.2)
      | inr p ↦
          let l = bind_ok (leaf_at end p.0 a.0.1) (λ read. Ok ((read.0, room), read.1)) x p.2 in
          let o = leaf_one end p.0 a.0.1 l.0 l.1 in
          let it : IsWithin (suc levels) (suc room) l.0.0 room = record { deep = omega (arith, o.deep); many = omega (arith, o.many) } in
          moved (suc levels) (suc room) ((l.0.0, room), l.0.1) x it (done ((l.0.0, room), l.0.1) x l.2)
    ]

front_within : (end : ℕ) (bytes : List ℕ) (x : Query × List ℕ) → front_at end bytes ≡ Ok x → (depth x.0 ≤ 64) × (nodes x.0 ≤ 512)
unfolding front_at
front_within end bytes x e =
    let a = bind_ok (expr_at end 64 512 bytes) (λ read. Ok (read.0.0, read.1)) x e in
    let w = expr_within end 64 512 bytes a.0 a.1 in
    let p : (a.0.0.0, a.0.1) ≡ x = done (a.0.0.0, a.0.1) x a.2 in
    subst (λ (z : Query × List ℕ). (depth z.0 ≤ 64) × (nodes z.0 ≤ 512)) p (w.deep, omega (arith, w.many))

pub read_within : ReadIsWithin
unfolding read_at
read_within bytes x e =
    let a = bind_ok (front_at (length bytes) bytes) (λ read. Ok (read.0, length bytes - length read.1)) x e in
    let w = front_within (length bytes) bytes a.0 a.1 in
    let p : (a.0.0, length bytes - length a.0.1) ≡ x = done (a.0.0, length bytes - length a.0.1) x a.2 in
    subst (λ (z : Query × ℕ). (depth z.0 ≤ 64) × (nodes z.0 ≤ 512)) p w

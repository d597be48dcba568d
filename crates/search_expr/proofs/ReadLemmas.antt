-- One node of an expression that is two.
use Rattle.std.proofs.Common.{◌≡◌, ℕ, zero, suc, ◌-◌, ◌<◌, List, refl, ap, sym, arith, Ok, Err}
use Rattle.std.specs.Prelude.{Result}
use Rattle.ed2k_tags.specs.Reading.{◌>>=◌}
use Rattle.search_expr.specs.declared.fault.ExprFault.{ExprFault}
use Rattle.search_expr.specs.declared.read.Join.{Join}
use Rattle.search_expr.specs.declared.read.Leaf.{Leaf}
use Rattle.search_expr.specs.declared.read.Start.TheVariants as starts
use Rattle.search_expr.specs.Query.{Query, joined}
use Rattle.search_expr.specs.Reading.{start_at, leaf_at, expr_at}

-- the two expressions behind a join
abbrev pub pair_at : ℕ → ℕ → ℕ → Join → List ℕ → Result ((Query × ℕ) × List ℕ) ExprFault
pair_at end levels room join bytes = do
  left ← expr_at end levels room bytes
  right ← expr_at end levels left.0.1 left.1
  Ok ((joined join left.0.0 right.0.0, right.0.1), right.1)

pub pair_next : (end levels room : ℕ) (bytes rest : List ℕ) (join : Join) → 0 < levels → 0 < room → start_at end bytes ≡ Ok (starts.Join join, rest)
    → expr_at end levels room bytes ≡ pair_at end (levels - 1) (room - 1) join rest
unfolding expr_at
pair_next end levels zero bytes rest join l r s = absurd (omega arith)
pair_next end zero (suc room) bytes rest join l r s = absurd (omega arith)
pair_next end (suc levels) (suc room) bytes rest join l r s =
    let a : suc levels - 1 ≡ levels = omega arith in
    let b : suc room - 1 ≡ room = omega arith in
    rw (a, b, s) refl

pub left_fault : (end levels room : ℕ) (bytes rest : List ℕ) (join : Join) (fault : ExprFault) → 0 < levels → 0 < room → start_at end bytes ≡ Ok (starts.Join join, rest)
    → expr_at end (levels - 1) (room - 1) rest ≡ Err fault → expr_at end levels room bytes ≡ Err fault
left_fault end levels room bytes rest join fault l r s e = rw (pair_next end levels room bytes rest join l r s, e) refl

pub right_fault : (end levels room more : ℕ) (bytes rest after : List ℕ) (join : Join) (left : Query) (fault : ExprFault) → 0 < levels → 0 < room → start_at end bytes ≡ Ok (starts.Join join, rest)
    → expr_at end (levels - 1) (room - 1) rest ≡ Ok ((left, more), after) → expr_at end (levels - 1) more after ≡ Err fault → expr_at end levels room bytes ≡ Err fault
right_fault end levels room more bytes rest after join left fault l r s e f = rw (pair_next end levels room bytes rest join l r s, e, f) refl

pub pair_read : (end levels room more most : ℕ) (bytes rest after behind : List ℕ) (join : Join) (left right whole : Query) → 0 < levels → 0 < room → start_at end bytes ≡ Ok (starts.Join join, rest)
    → expr_at end (levels - 1) (room - 1) rest ≡ Ok ((left, more), after) → expr_at end (levels - 1) more after ≡ Ok ((right, most), behind) → whole ≡ joined join left right → expr_at end levels room bytes ≡ Ok ((whole, most), behind)
pair_read end levels room more most bytes rest after behind join left right whole l r s e f w = rw (pair_next end levels room bytes rest join l r s, e, f, w) refl

pub leaf_read : (end levels room : ℕ) (leaf : Leaf) (e : Query) (bytes rest after : List ℕ) → 0 < levels → 0 < room → start_at end bytes ≡ Ok (starts.Leaf leaf, rest)
    → leaf_at end leaf rest ≡ Ok (e, after) → expr_at end levels room bytes ≡ Ok ((e, room - 1), after)
unfolding expr_at
leaf_read end levels zero leaf e bytes rest after l r s f = absurd (omega arith)
leaf_read end zero (suc room) leaf e bytes rest after l r s f = absurd (omega arith)
leaf_read end (suc levels) (suc room) leaf e bytes rest after l r s f =
    let b : suc room - 1 ≡ room = omega arith in
    rw (b, s, f) refl

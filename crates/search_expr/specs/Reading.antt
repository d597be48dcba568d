-- An expression read from left to right, and the first fault that stands in it. Bytes end at a place, as
-- which places are counted.
use Rattle.std.specs.Prelude.{ℕ, zero, suc, ◌-◌, ◌==◌, ◌||◌, Bool, true, false, List, length, Result, Ok, Err, if◌then◌else◌}
use Rattle.search_expr.specs.declared.fault.ExprFault.{ExprFault}
use Rattle.search_expr.specs.declared.fault.ExprFault.TheVariants.{Cut, BadOp, Many, Deep}
use Rattle.search_expr.specs.declared.read.Join.{Join}
use Rattle.search_expr.specs.declared.read.Join.TheVariants as joins
use Rattle.search_expr.specs.declared.read.Leaf.{Leaf}
use Rattle.search_expr.specs.declared.read.Leaf.TheVariants as leaves
use Rattle.search_expr.specs.declared.read.Start.{Start}
use Rattle.search_expr.specs.declared.read.Start.TheVariants as starts
use Rattle.ed2k_tags.specs.Fields.{number_at, counted_at, or}
use Rattle.ed2k_tags.specs.Reading.{◌>>=◌}
use Rattle.search_expr.specs.Query.{Query, HasWords, HasText, HasNumber, joined}

-- how the two expressions that follow are one
unfoldable pub join_at : ℕ → List ℕ → Result (Start × List ℕ) ExprFault
join_at end bytes = do
  join ← or Cut (number_at 1 bytes)
  if join.0 == 0 then Ok (starts.Join joins.And, join.1)
      else (if join.0 == 1 then Ok (starts.Join joins.Or, join.1)
      else (if join.0 == 2 then Ok (starts.Join joins.Not, join.1)
      else Err (BadOp (end - length bytes))))

-- what the first bytes say that a node is
unfoldable pub start_at : ℕ → List ℕ → Result (Start × List ℕ) ExprFault
start_at end bytes = do
  first ← or Cut (number_at 1 bytes)
  if first.0 == 0 then join_at end first.1
      else (if first.0 == 1 then Ok (starts.Leaf leaves.Word, first.1)
      else (if first.0 == 2 then Ok (starts.Leaf leaves.TagText, first.1)
      else (if first.0 == 3 then Ok (starts.Leaf leaves.Number, first.1)
      else Err (BadOp (end - length bytes)))))

-- an operator, which asks for a most or not
unfoldable pub operator_at : ℕ → List ℕ → Result (Bool × List ℕ) ExprFault
operator_at end bytes = do
  operator ← or Cut (number_at 1 bytes)
  if operator.0 == 1 || operator.0 == 3 then Ok (false, operator.1)
      else (if operator.0 == 2 || operator.0 == 4 then Ok (true, operator.1)
      else Err (BadOp (end - length bytes)))

-- what has no expression in it
unfoldable pub leaf_at : ℕ → Leaf → List ℕ → Result (Query × List ℕ) ExprFault
leaf_at end leaves.Word bytes = do
  text ← or Cut (counted_at 2 bytes)
  Ok (HasWords text.0, text.1)
leaf_at end leaves.TagText bytes = do
  value ← or Cut (counted_at 2 bytes)
  name ← or Cut (counted_at 2 value.1)
  Ok (HasText value.0 name.0, name.1)
leaf_at end leaves.Number bytes = do
  value ← or Cut (number_at 4 bytes)
  most ← operator_at end value.1
  name ← or Cut (counted_at 2 most.1)
  Ok (HasNumber value.0 most.0 name.0, name.1)

abbrev pub by_start : {A : Type 0} → (Join → A) → (Leaf → A) → Start → A
by_start join leaf (starts.Join x) = join x
by_start join leaf (starts.Leaf x) = leaf x

-- an expression of at most so many levels and nodes, and how many nodes are left
unfoldable pub expr_at : ℕ → ℕ → ℕ → List ℕ → Result ((Query × ℕ) × List ℕ) ExprFault
expr_at end levels zero bytes = Err Many
expr_at end zero (suc room) bytes = Err Deep
expr_at end (suc levels) (suc room) bytes = do
  start ← start_at end bytes
  by_start
      (λ join. do
        left ← expr_at end levels room start.1
        right ← expr_at end levels left.0.1 left.1
        Ok ((joined join left.0.0 right.0.0, right.0.1), right.1))
      (λ leaf. do
        read ← leaf_at end leaf start.1
        Ok ((read.0, room), read.1))
      start.0

-- an expression within the limits
unfoldable pub front_at : ℕ → List ℕ → Result (Query × List ℕ) ExprFault
front_at end bytes = do
  read ← expr_at end 64 512 bytes
  Ok (read.0.0, read.1)

-- an expression within the limits, and the place after it
unfoldable pub read_at : List ℕ → Result (Query × ℕ) ExprFault
read_at bytes = do
  read ← front_at (length bytes) bytes
  Ok (read.0, length bytes - length read.1)

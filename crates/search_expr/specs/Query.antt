-- An expression without where it lies in memory.
use Rattle.std.specs.Prelude.{ℕ, ◌+◌, max, Bool, List}
use Rattle.search_expr.specs.declared.read.Join.{Join}
use Rattle.search_expr.specs.declared.read.Join.TheVariants as joins
use Rattle.search_expr.specs.declared.expr.Expr.{Expr, And', Or', Not', Word, TagText, Number}

-- What is asked of a file.
pub data Query : Type 0 where
  Both : Query → Query → Query
  Either : Query → Query → Query
  ButNot : Query → Query → Query
  HasWords : List ℕ → Query
  HasText : List ℕ → List ℕ → Query
  HasNumber : ℕ → Bool → List ℕ → Query

abbrev pub query : Expr → Query
query (And' _ left _ right) = Both (query left) (query right)
query (Or' _ left _ right) = Either (query left) (query right)
query (Not' _ left _ right) = ButNot (query left) (query right)
query (Word text) = HasWords text
query (TagText value tag) = HasText value tag
query (Number value most tag) = HasNumber value most tag

-- how many levels it has
abbrev pub depth : Query → ℕ
depth (Both left right) = max (depth left) (depth right) + 1
depth (Either left right) = max (depth left) (depth right) + 1
depth (ButNot left right) = max (depth left) (depth right) + 1
depth (HasWords text) = 1
depth (HasText value tag) = 1
depth (HasNumber value most tag) = 1

-- how many nodes it has
abbrev pub nodes : Query → ℕ
nodes (Both left right) = nodes left + nodes right + 1
nodes (Either left right) = nodes left + nodes right + 1
nodes (ButNot left right) = nodes left + nodes right + 1
nodes (HasWords text) = 1
nodes (HasText value tag) = 1
nodes (HasNumber value most tag) = 1

-- two as one
abbrev pub joined : Join → Query → Query → Query
joined joins.And left right = Both left right
joined joins.Or left right = Either left right
joined joins.Not left right = ButNot left right

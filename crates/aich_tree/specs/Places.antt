-- Where a node's leaves stand among all leaves.
use Rattle.std.specs.Prelude.{◌≡◌, ℕ, ◌+◌, ◌-◌, ◌<◌, ◌≤◌, List, length, take, drop}
use Rattle.part_sizes.specs.declared.span.Span.{Span}
use Rattle.aich_tree.specs.Ident.{bytes_at}
use Rattle.aich_tree.specs.Leaves.{leaf_count, leaves_of}

-- the node over these positions of a file of this size has its leaves from this one on
pub record IsPlaceOf (size : ℕ) (span : Span) (first : ℕ) : Type 0 where
  pub some : span.s < span.e
  pub within : span.e ≤ size
  pub count : first + leaf_count (span.e - span.s) ≤ leaf_count size
  pub leaves : (bytes : List ℕ) → length bytes ≡ size
      → leaves_of (bytes_at bytes span) ≡ take (leaf_count (span.e - span.s)) (drop first (leaves_of bytes))

-- The orders of the keys of the maps.
use Rattle.std.specs.Prelude.{ℕ, List}
use Rattle.std.specs.declared.cmp.Ordering.{Ordering}
use Rattle.std.specs.Ordering.{nat_cmp, ordering_then}
use Rattle.std.specs.Cmp.Lexicographic.{slice_cmp}

-- hashes by their bytes
abbrev pub hash_cmp : List ℕ → List ℕ → Ordering
hash_cmp = slice_cmp nat_cmp

-- by hash, then by number
abbrev pub spot_cmp : List ℕ × ℕ → List ℕ × ℕ → Ordering
spot_cmp x y = ordering_then (hash_cmp x.0 y.0) (nat_cmp x.1 y.1)

-- by key, then by spot
abbrev pub posting_cmp : ℕ × (List ℕ × ℕ) → ℕ × (List ℕ × ℕ) → Ordering
posting_cmp x y = ordering_then (nat_cmp x.0 y.0) (spot_cmp x.1 y.1)

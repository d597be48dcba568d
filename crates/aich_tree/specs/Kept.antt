-- The nodes that a tree keeps beside its leaves: its parts, and those above them.
use Rattle.std.specs.Prelude.{◌≡◌, ℕ, zero, suc, ◌+◌, ◌-◌, ◌*◌, ◌≤◌, nat_le, List, [], ◌∷◌, ◌++◌, length, take, drop, Bool, true, false, if◌then◌else◌}
use Rattle.std.specs.Int.{div_ceil}
use Rattle.part_sizes.specs.declared.part.TheConstants.{PART}
use Rattle.part_sizes.specs.declared.span.Span.{Span}
use Rattle.aich_tree.specs.Ident.{bytes_at}
use Rattle.aich_tree.specs.Tree.{tree, left_bytes}

-- the nodes of so many bytes: a part each, and one above each two neighbours
abbrev pub kept_count : ℕ → ℕ
kept_count n = 2 * div_ceil n PART - 1

-- the hashes of a node's left child and below, of its right child and below, and its own, in a tree of at
-- most so many levels below it
unfoldable pub kept_within : ℕ → List ℕ → Bool → List (List ℕ)
kept_within zero bytes left = tree bytes left ∷ []
kept_within (suc levels) bytes left =
    if nat_le (length bytes) PART then tree bytes left ∷ []
    else kept_within levels (take (left_bytes (length bytes) left) bytes) true
    ++ kept_within levels (drop (left_bytes (length bytes) left) bytes) false
    ++ tree bytes left ∷ []

-- the hashes of the parts of a node over these bytes and of the nodes above them, down from the node itself
unfoldable pub kept_of : List ℕ → Bool → List (List ℕ)
kept_of bytes left = kept_within (length bytes) bytes left

-- these stand among all of them, from this place on
pub record IsAmong (all : List (List ℕ)) (first : ℕ) (these : List (List ℕ)) : Type 0 where
  pub before : List (List ℕ)
  pub behind : List (List ℕ)
  pub whole : all ≡ before ++ these ++ behind
  pub placed : length before ≡ first

-- the node over these positions of a file of this size has its kept nodes from this one on
pub record IsKeptAt (size : ℕ) (left : Bool) (span : Span) (first : ℕ) : Type 0 where
  pub within : span.e ≤ size
  pub count : first + kept_count (span.e - span.s) ≤ kept_count size
  pub nodes : (bytes : List ℕ) → length bytes ≡ size → IsAmong (kept_of bytes true) first (kept_of (bytes_at bytes span) left)

-- MD4 of four messages side by side.
use Rattle.std.specs.Prelude.{◌≡◌, ℕ, ◌<◌, List, [], ◌∷◌}
use Rattle.sha1_lanes.specs.Lanes.{lane_at}
use Rattle.md4_hash.specs.Md4.{word}

-- the registers of message j
abbrev pub four : ℕ → List (List ℕ) → List ℕ
four j x = lane_at x 0 j ∷ lane_at x 1 j ∷ lane_at x 2 j ∷ lane_at x 3 j ∷ []

-- lane j of w has the sixteen words of the block b
abbrev pub HasWords : ℕ → List (List ℕ) → List ℕ → Type 0
HasWords j w b = (k : ℕ) → k < 16 → lane_at w k j ≡ word b k

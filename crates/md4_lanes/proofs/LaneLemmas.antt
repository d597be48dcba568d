use Rattle.std.proofs.Common.{◌≡◌, ℕ, ◌<◌, List, length, map, slice_index, bit_or, bit_and, refl}
use Rattle.std.specs.Int.{w32, bit_not}
use Rattle.std.specs.Simd.Lanes.{zip2}
use Rattle.md4_hash.specs.Md4.{choice, majority}
use Rattle.sha1_lanes.proofs.LaneLemmas.{below_four, three}

abbrev Chooses : List ℕ → List ℕ → List ℕ → Type 0
Chooses x y z = (j : ℕ) → j < 4
    → slice_index (zip2 bit_or (zip2 bit_and x y) (zip2 bit_and (map (bit_not w32) x) z)) j
    ≡ choice (slice_index x j) (slice_index y j) (slice_index z j)

pub chooses : (x y z : List ℕ) → length x ≡ 4 → length y ≡ 4 → length z ≡ 4 → Chooses x y z
chooses = three Chooses (λ a b c d a' b' c' d' a'' b'' c'' d''. below_four _ refl refl refl refl)

abbrev IsMajority : List ℕ → List ℕ → List ℕ → Type 0
IsMajority x y z = (j : ℕ) → j < 4
    → slice_index (zip2 bit_or (zip2 bit_or (zip2 bit_and x y) (zip2 bit_and x z)) (zip2 bit_and y z)) j
    ≡ majority (slice_index x j) (slice_index y j) (slice_index z j)

pub majorities : (x y z : List ℕ) → length x ≡ 4 → length y ≡ 4 → length z ≡ 4 → IsMajority x y z
majorities = three IsMajority (λ a b c d a' b' c' d' a'' b'' c'' d''. below_four _ refl refl refl refl)

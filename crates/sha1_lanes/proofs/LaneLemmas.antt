use Rattle.std.proofs.Common.{◌≡◌, ℕ, zero, suc, ◌+◌, ◌<◌, ◌-◌, ◌*◌, ◌/◌, ◌%◌, ◌^◌, List, [], ◌∷◌, length, map, drop, ◌++◌, ◌∙◌, length-append, slice_index, bit_or, bit_and, bit_xor, arith, refl, subst}
use Rattle.std.specs.Int.{w32, rotate_left, bit_not}
use Rattle.sha1.specs.Sha1.{ch, parity, maj, IsWindow, schedule, rounds, round, compress, hash_after, digest_bytes, padding, sha1}
use Rattle.sha1.proofs.Schedule.{rounds_first}
use Rattle.sha1.proofs.Absorbing.{hash_after_next, hash_after-append}
use Rattle.std.proofs.lemmas.List.{drop_at, take_all}
use Rattle.std.specs.Simd.Lanes.{zip2}
use Rattle.std.proofs.Math.ListN.{get_or-map}
use Rattle.sha1_lanes.specs.Lanes.{lane, lane_at, pick, IsFirstAt}

-- what holds of each of the four lanes
pub below_four : (P : ℕ → Type 0) → P 0 → P 1 → P 2 → P 3 → (j : ℕ) → j < 4 → P j
below_four P p0 p1 p2 p3 zero h = p0
below_four P p0 p1 p2 p3 (suc zero) h = p1
below_four P p0 p1 p2 p3 (suc (suc zero)) h = p2
below_four P p0 p1 p2 p3 (suc (suc (suc zero))) h = p3
below_four P p0 p1 p2 p3 (suc (suc (suc (suc n)))) h = absurd (omega arith)

-- what holds of each list of four elements
pub four_lanes : (P : List ℕ → Type 0) → ((a b c d : ℕ) → P (a ∷ b ∷ c ∷ d ∷ [])) → (xs : List ℕ) → length xs ≡ 4 → P xs
four_lanes P p (a ∷ b ∷ c ∷ d ∷ []) h = p a b c d
four_lanes P p [] h = absurd (omega arith)
four_lanes P p (a ∷ []) h = absurd (omega arith)
four_lanes P p (a ∷ b ∷ []) h = absurd (omega arith)
four_lanes P p (a ∷ b ∷ c ∷ []) h = absurd (omega arith)
four_lanes P p (a ∷ b ∷ c ∷ d ∷ e ∷ xs) h = absurd (omega arith)

-- two shifts of each lane and an or are a rotation
abbrev Turns : ℕ → List ℕ → Type 0
Turns k x = (j : ℕ) → j < 4
    → slice_index (zip2 bit_or
    (zip2 (λ x n. x * 2 ^ n % 2 ^ 32) x (k ∷ k ∷ k ∷ k ∷ []))
    (zip2 (λ x n. x / 2 ^ n) x ((32 - k) ∷ (32 - k) ∷ (32 - k) ∷ (32 - k) ∷ []))) j
    ≡ rotate_left w32 (slice_index x j) k

pub shifts_turn : (k : ℕ) → 0 < k → k < 32 → (x : List ℕ) → length x ≡ 4 → Turns k x
shifts_turn k low high =
    let left : k % 32 ≡ k = omega arith in
    let right : (32 - k) % 32 ≡ 32 - k = omega arith in
    four_lanes (Turns k) (λ a b c d.
    below_four _ (rw (left, right) refl) (rw (left, right) refl) (rw (left, right) refl) (rw (left, right) refl))

-- word i of lane j
pub slice_index-lane : (x : List (List ℕ)) (j i : ℕ) → slice_index (lane j x) i ≡ lane_at x i j
slice_index-lane x j i = get_or-map (λ v. slice_index v j) x i []

-- what holds of each three, or four, lists of four elements
pub three : (P : List ℕ → List ℕ → List ℕ → Type 0)
    → ((a b c d a' b' c' d' a'' b'' c'' d'' : ℕ) → P (a ∷ b ∷ c ∷ d ∷ []) (a' ∷ b' ∷ c' ∷ d' ∷ []) (a'' ∷ b'' ∷ c'' ∷ d'' ∷ []))
    → (x y z : List ℕ) → length x ≡ 4 → length y ≡ 4 → length z ≡ 4 → P x y z
three P p x y z hx hy hz =
    four_lanes (λ x. P x y z) (λ a b c d.
    four_lanes (λ y. P (a ∷ b ∷ c ∷ d ∷ []) y z) (λ a' b' c' d'.
    four_lanes (P (a ∷ b ∷ c ∷ d ∷ []) (a' ∷ b' ∷ c' ∷ d' ∷ [])) (p a b c d a' b' c' d') z hz) y hy) x hx

abbrev Chooses : List ℕ → List ℕ → List ℕ → Type 0
Chooses x y z = (j : ℕ) → j < 4
    → slice_index (zip2 bit_xor (zip2 bit_and x y) (zip2 bit_and (map (bit_not w32) x) z)) j
    ≡ ch (slice_index x j) (slice_index y j) (slice_index z j)

pub chooses : (x y z : List ℕ) → length x ≡ 4 → length y ≡ 4 → length z ≡ 4 → Chooses x y z
chooses = three Chooses (λ a b c d a' b' c' d' a'' b'' c'' d''. below_four _ refl refl refl refl)

abbrev IsParity : List ℕ → List ℕ → List ℕ → Type 0
IsParity x y z = (j : ℕ) → j < 4
    → slice_index (zip2 bit_xor (zip2 bit_xor x y) z) j
    ≡ parity (slice_index x j) (slice_index y j) (slice_index z j)

pub parities : (x y z : List ℕ) → length x ≡ 4 → length y ≡ 4 → length z ≡ 4 → IsParity x y z
parities = three IsParity (λ a b c d a' b' c' d' a'' b'' c'' d''. below_four _ refl refl refl refl)

abbrev IsMajority : List ℕ → List ℕ → List ℕ → Type 0
IsMajority x y z = (j : ℕ) → j < 4
    → slice_index (zip2 bit_xor (zip2 bit_xor (zip2 bit_and x y) (zip2 bit_and x z)) (zip2 bit_and y z)) j
    ≡ maj (slice_index x j) (slice_index y j) (slice_index z j)

pub majorities : (x y z : List ℕ) → length x ≡ 4 → length y ≡ 4 → length z ≡ 4 → IsMajority x y z
majorities = three IsMajority (λ a b c d a' b' c' d' a'' b'' c'' d''. below_four _ refl refl refl refl)

abbrev IsMix : List ℕ → List ℕ → List ℕ → List ℕ → Type 0
IsMix x y z u = (j : ℕ) → j < 4
    → slice_index (zip2 bit_xor (zip2 bit_xor (zip2 bit_xor x y) z) u) j
    ≡ bit_xor (bit_xor (bit_xor (slice_index x j) (slice_index y j)) (slice_index z j)) (slice_index u j)

pub mixes : (x y z u : List ℕ) → length x ≡ 4 → length y ≡ 4 → length z ≡ 4 → length u ≡ 4 → IsMix x y z u
mixes x y z u hx hy hz hu =
    three (λ x y z. IsMix x y z u) (λ a b c d a' b' c' d' a'' b'' c'' d''.
    four_lanes (IsMix (a ∷ b ∷ c ∷ d ∷ []) (a' ∷ b' ∷ c' ∷ d' ∷ []) (a'' ∷ b'' ∷ c'' ∷ d'' ∷ []))
    (λ e f g h. below_four _ refl refl refl refl) u hu) x y z hx hy hz

-- one of the first 16 rounds, with its constant given by an equation
pub rounds_first_k : (b h w v : List ℕ) (t f k x : ℕ) (next : List ℕ) → t < 16 → IsWindow w (schedule b 64) 16 → v ≡ rounds h (schedule b 64) t
    → x ≡ slice_index w t → f ≡ ch (slice_index v 1) (slice_index v 2) (slice_index v 3) → k ≡ 0x5A827999 → next ≡ round v f k x → next ≡ rounds h (schedule b 64) (t + 1)
rounds_first_k b h w v t f k x next lt win ev ex ef ek en = rounds_first b h w v t f x next lt win ev ex ef (rw ek at en)

-- what holds of each of the sixteen words
pub below_sixteen : (P : ℕ → Type 0) → P 0 → P 1 → P 2 → P 3 → P 4 → P 5 → P 6 → P 7
    → P 8 → P 9 → P 10 → P 11 → P 12 → P 13 → P 14 → P 15 → (k : ℕ) → k < 16 → P k
below_sixteen P a0 a1 a2 a3 b0 b1 b2 b3 c0 c1 c2 c3 d0 d1 d2 d3 k h =
    let place : 4 * (k / 4) + k % 4 ≡ k = omega arith in
    subst P place (below_four (λ row. (col : ℕ) → col < 4 → P (4 * row + col))
    (below_four _ a0 a1 a2 a3) (below_four _ b0 b1 b2 b3) (below_four _ c0 c1 c2 c3) (below_four _ d0 d1 d2 d3)
    (k / 4) (omega arith) (k % 4) (omega arith))

-- the same place, spelled another way
pub IsFirstAt_at : (b h w v : List ℕ) (n k : ℕ) → n ≡ k → IsFirstAt b h w v n → IsFirstAt b h w v k
IsFirstAt_at b h w v n k e held = rw (← e) held

-- a step on each message is a step on the one that is picked
pub pick_each : (f : List ℕ → List ℕ) (j : ℕ) → j < 4 → (a b c d : List ℕ) → pick j (f a) (f b) (f c) (f d) ≡ f (pick j a b c d)
pick_each f j lt a b c d = below_four (λ j. pick j (f a) (f b) (f c) (f d) ≡ f (pick j a b c d)) refl refl refl refl j lt

-- the padding of whole blocks
padding_whole : (n : ℕ) → n % 64 ≡ 0 → length (padding n) ≡ 64
padding_whole n whole = rw whole refl

-- the digest of a message of whole blocks
pub sha1_whole : (m h : List ℕ) (n : ℕ) → length m ≡ n → n % 64 ≡ 0 → h ≡ compress (hash_after m (n / 64)) (padding n) → digest_bytes h 5 ≡ sha1 m
unfolding sha1
sha1_whole m h n long whole last =
    let pad : List ℕ = padding n in
    let k : ℕ = n / 64 in
    let width : length pad ≡ 64 = padding_whole n whole in
    let total : length (m ++ pad) ≡ n + 64 = omega (arith, length-append m pad) in
    let count : length (m ++ pad) / 64 ≡ k + 1 = omega arith in
    let behind : drop (k * 64) (m ++ pad) ≡ pad = drop_at m pad (k * 64) (omega arith) in
    let before : hash_after (m ++ pad) k ≡ hash_after m k = hash_after-append m pad k (omega arith) in
    let next : hash_after (m ++ pad) (k + 1) ≡ compress (hash_after m k) pad =
    hash_after_next (m ++ pad) k ∙ rw (before, behind, take_all 64 pad (omega arith)) refl in
    rw (long, count, next, last) refl

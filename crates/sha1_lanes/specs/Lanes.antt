-- Four messages side by side: each word is a vector, with one lane for each message.
use Rattle.std.specs.Prelude.{◌≡◌, ℕ, ◌/◌, List, [], ◌∷◌, length, map, slice_index, slice_index_or}
use Rattle.sha1.specs.Sha1.{IsWindow, schedule, rounds, hash_after}

-- lane j of each vector
abbrev pub lane : ℕ → List (List ℕ) → List ℕ
lane j x = map (λ v. slice_index v j) x

-- lane j of vector k
abbrev pub lane_at : List (List ℕ) → ℕ → ℕ → ℕ
lane_at x k j = slice_index (slice_index_or x k []) j

-- the five words of a hash value, or the five working variables, of message j
abbrev pub five : ℕ → List (List ℕ) → List ℕ
five j x = lane_at x 0 j ∷ lane_at x 1 j ∷ lane_at x 2 j ∷ lane_at x 3 j ∷ lane_at x 4 j ∷ []

-- the j-th of four messages
abbrev pub pick : ℕ → List ℕ → List ℕ → List ℕ → List ℕ → List ℕ
pick j a b c d = slice_index_or (a ∷ b ∷ c ∷ d ∷ []) j []

-- the window w has the first 16 words of block b, and after t rounds from h the working variables are v
abbrev pub IsFirstAt : List ℕ → List ℕ → List ℕ → List ℕ → ℕ → Type 0
IsFirstAt b h w v t = IsWindow w (schedule b 64) 16 × (v ≡ rounds h (schedule b 64) t)

-- h is the hash value behind the message m of n bytes, which are whole blocks
abbrev pub IsBehind : ℕ → List ℕ → List ℕ → Type 0
IsBehind n h m = (length m ≡ n) × (h ≡ hash_after m (n / 64))

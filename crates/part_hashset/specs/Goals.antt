-- What a part's digest is to be, and what a verdict on it says.
use Rattle.std.specs.Prelude.{ℕ, Bool, true, false, not, List, [], ◌∷◌, nat_lt, ◌==◌, slice_get, Option, Some, None, find, if◌then◌else◌}
use Rattle.std.specs.Option.{option_map}
use Rattle.std.specs.Str.{bytes_eq}
use Rattle.part_hashset.specs.declared.aim.Aim.{Aim}
use Rattle.part_sizes.specs.declared.part.TheConstants.{PART}
use Rattle.part_sizes.specs.declared.small_lists.Pair.{Pair}

-- no set is kept
abbrev pub is_nil : List (List ℕ) → Bool
is_nil [] = true
is_nil (x ∷ xs) = false

-- the digest that a part is to have: the file's hash below one part, else the member of the kept set
abbrev pub goal_in : Aim → List (List ℕ) → ℕ → Option (List ℕ)
goal_in aim set i = if nat_lt aim.size PART then Some aim.hash else slice_get set i

-- the digest of the first pair of the part
abbrev pub digest_in : List Pair → ℕ → Option (List ℕ)
digest_in pairs i = option_map (λ pair. pair.digest) (find (λ pair. pair.part == i) pairs)

-- the digest is the one that is wanted
abbrev pub is_wanted : Option (List ℕ) → List ℕ → Bool
is_wanted None d = false
is_wanted (Some wanted) d = bytes_eq d wanted

-- a part is verified where its verdict is the goal, and failed where there is another verdict
abbrev pub passes : Option (List ℕ) → Option (List ℕ) → Bool
passes wanted None = false
passes wanted (Some d) = is_wanted wanted d

abbrev pub fails : Option (List ℕ) → Option (List ℕ) → Bool
fails wanted None = false
fails wanted (Some d) = not (is_wanted wanted d)

-- How much the reads of a wire in memory take at most.
use Rattle.std.specs.Prelude.{ℕ, List, [], ◌∷◌, min, max}

-- the next cut, or all of the room once the cuts are used up; a cut of 0 counts as 1
abbrev pub most_taken : List ℕ → ℕ → ℕ
most_taken [] room = room
most_taken (cut ∷ cuts) room = min (max cut 1) room

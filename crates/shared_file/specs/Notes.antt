-- What the peers of a part file see of it.
use Rattle.std.specs.Prelude.{ℕ, ◌+◌, Bool, List, [], ◌∷◌, ◌++◌, if◌then◌else◌}
use Rattle.reserve_core.specs.declared.event.Entry.{Entry}
use Rattle.shared_file.specs.declared.noted.Noted.{Noted}
use Rattle.shared_file.specs.declared.noted.Noted.TheVariants as note

abbrev pub marked : List Entry → List Noted
marked [] = []
marked (entry ∷ log) = note.Entry entry ∷ marked log

abbrev pub mark_of : Bool → List Noted
mark_of broken = if broken then note.Broken ∷ [] else []

-- the log, and behind it a mark where the part file is broken
abbrev pub noted : List Entry → Bool → List Noted
noted log broken = marked log ++ mark_of broken

-- the entries alone
abbrev pub entries : List Noted → List Entry
entries [] = []
entries (note.Entry entry ∷ seen) = entry ∷ entries seen
entries (note.Broken ∷ seen) = entries seen

-- how many marks there are
abbrev pub marks : List Noted → ℕ
marks [] = 0
marks (note.Entry entry ∷ seen) = marks seen
marks (note.Broken ∷ seen) = marks seen + 1

-- What gives those that wait for a part or a range something to do.
use Rattle.std.specs.Prelude.{ℕ, Bool, true, false, not, List, drop}
use Rattle.std.specs.List.{list_any}
use Rattle.part_hashset.specs.declared.aim.Aim.{Aim}
use Rattle.part_hashset.specs.Goals.{is_wanted}
use Rattle.reserve_core.specs.Verdicts.{goal}
use Rattle.reserve_core.specs.declared.event.Event.{Event}
use Rattle.reserve_core.specs.declared.event.Event.TheVariants.{Write, Release, Verdict, Recovered, Dropped}

-- An event of the log is a Write, a Release, a Recovered, a Dropped, or a Verdict with another digest than
-- the part is to have.
abbrev pub moves : Aim → List Event → Event → Bool
moves aim h (Write p r) = true
moves aim h (Release p) = true
moves aim h (Recovered i kept) = true
moves aim h (Dropped i) = true
moves aim h (Verdict i d) = not (is_wanted (goal aim h i) d)
moves aim h _ = false

-- such an event stands at a place of the log or later
abbrev pub moved : Aim → List Event → ℕ → Bool
moved aim h from = list_any (moves aim h) (drop from h)

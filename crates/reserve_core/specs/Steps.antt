-- The held ranges after an event.
use Rattle.std.specs.Prelude.{Bool, not, List, map}
use Rattle.std.specs.List.{filter}
use Rattle.reserve_core.specs.Events.{raise}
use Rattle.reserve_core.specs.Held.{written_by, is_release, is_open}
use Rattle.part_sizes.specs.declared.span.Span.{Span}
use Rattle.reserve_core.specs.declared.event.Event.{Event}
use Rattle.reserve_core.specs.declared.event.Event.TheVariants.{Write}
use Rattle.reserve_core.specs.declared.hold.Hold.{Hold}

-- what an event makes of a range: a Write of its peer that lies in it moves its start
abbrev pub advance : Event → Hold → Hold
advance e k = record { peer = k.peer; whole = k.whole; from = raise (written_by k.peer k.whole e) k.from }

-- a range whose own peer wrote a span
abbrev pub past : Span → Hold → Hold
past span k = advance (Write k.peer span) k

abbrev pub stays : Event → Hold → Bool
stays e k = not (is_release k.peer e)

abbrev pub step : Event → List Hold → List Hold
step e ks = filter (stays e) (map (advance e) ks)

-- the ranges that are not empty after the event
abbrev pub stepped : Event → List Hold → List Hold
stepped e ks = filter is_open (step e ks)

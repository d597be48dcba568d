-- The ranges that peers hold.
use Rattle.std.specs.Prelude.{ℕ, Bool, false, not, ◌&&◌, List, [], ◌∷◌, ◌++◌, nat_le, nat_lt, map, Option, None, if◌then◌else◌, ◌==◌}
use Rattle.std.specs.Bool.{then_some}
use Rattle.std.specs.List.{list_any, filter}
use Rattle.part_sizes.specs.Span.{has, is_empty}
use Rattle.part_sizes.specs.declared.span.Span.{Span}
use Rattle.reserve_core.specs.Events.{greatest}
use Rattle.reserve_core.specs.declared.event.Event.{Event}
use Rattle.reserve_core.specs.declared.event.Event.TheVariants.{Reserve, Write, Release}
use Rattle.reserve_core.specs.declared.hold.Hold.{Hold}

-- a span lies in another
abbrev pub lies : Span → Span → Bool
lies q r = nat_le r.s q.s && nat_le q.e r.e

-- the end of a Write of the peer that lies in the span
abbrev pub written_by : ℕ → Span → Event → Option ℕ
written_by p r (Write q s) = then_some (q == p && lies s r) s.e
written_by p r _ = None

-- The range of a reserved span goes from the greatest end of a later Write of the peer that lies in the
-- span, or from its start where there is none, to its end. The events are those after the Reserve.
abbrev pub hold_after : ℕ → List Event → Span → Hold
hold_after p h r = record { peer = p; whole = r; from = greatest (written_by p r) r.s h }

-- a Release of the peer
abbrev pub is_release : ℕ → Event → Bool
is_release p (Release q) = q == p
is_release p _ = false

-- each span of a Reserve counts where no later Release of its peer stands
abbrev pub reserved_by : Event → List Event → List Hold
reserved_by (Reserve p spans) h = if list_any (is_release p) h then [] else map (hold_after p h) spans
reserved_by _ h = []

abbrev pub reserved_holds : List Event → List Hold
reserved_holds [] = []
reserved_holds (e ∷ h) = reserved_by e h ++ reserved_holds h

-- empty ranges are left out
abbrev pub is_open : Hold → Bool
is_open hold = nat_lt hold.from hold.whole.e

abbrev pub holds_of : List Event → List Hold
holds_of h = filter is_open (reserved_holds h)

abbrev pub range_of : Hold → Span
range_of hold = record { s = hold.from; e = hold.whole.e }

-- the ranges that a peer holds
abbrev pub left_of : List Event → ℕ → List Span
left_of h p = map range_of (filter (λ hold. hold.peer == p) (holds_of h))

-- the peer holds some range
abbrev pub is_holder : List Event → ℕ → Bool
is_holder h p = list_any (λ hold. hold.peer == p) (holds_of h)

-- a range that the peer holds has the position
abbrev pub holds : List Event → ℕ → ℕ → Bool
holds h p x = list_any (λ r. has r x) (left_of h p)

-- a range that some peer holds has the position
abbrev pub is_held : List Event → ℕ → Bool
is_held h x = list_any (λ hold. has (range_of hold) x) (holds_of h)

-- the span is not empty, and a range that the peer holds begins at its start and reaches its end
abbrev pub may_write : List Event → ℕ → Span → Bool
may_write h p r = not (is_empty r) && list_any (λ q. (q.s == r.s) && nat_le r.e q.e) (left_of h p)

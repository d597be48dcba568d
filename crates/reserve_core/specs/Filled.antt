-- Filled positions, and what is not yet durable.
use Rattle.std.specs.Prelude.{◌≡◌, ℕ, ◌+◌, ◌<◌, Bool, true, false, not, ◌&&◌, List, [], ◌∷◌, if◌then◌else◌, nat_lt, get_or, min, max, Option, Some, None, unwrap_or, find, is_none, IfSome}
use Rattle.std.specs.Bool.{then_some}
use Rattle.std.specs.List.{list_any}
use Rattle.byte_ranges.specs.Spans.{IsApart}
use Rattle.part_sizes.specs.Block.{block_of}
use Rattle.part_sizes.specs.Part.{data_parts, part_range, part_of}
use Rattle.part_sizes.specs.Span.{has, positions}
use Rattle.part_sizes.specs.declared.span.Span.{Span}
use Rattle.reserve_core.specs.Events.{latest}
use Rattle.reserve_core.specs.declared.event.Event.{Event}
use Rattle.reserve_core.specs.declared.event.Event.TheVariants.{Opened, Write, Commit, Recovered, Dropped}

-- What an event makes of a position that it touches. A Write touches its span, and fills it; a
-- Recovered touches the blocks that it does not keep, and a Dropped its part, and they open them again;
-- an Opened touches all, and fills what it lists.
abbrev pub filled_by : ℕ → ℕ → Event → Option Bool
filled_by n x (Opened o) = Some (list_any (λ r. has r x) o.filled)
filled_by n x (Write p r) = then_some (has r x) true
filled_by n x (Recovered i kept) = then_some (has (part_range n i) x && not (get_or kept (block_of x) false)) false
filled_by n x (Dropped i) = then_some (has (part_range n i) x) false
filled_by n x _ = None

-- a position is filled where the newest event that touches it fills it
abbrev pub is_filled : ℕ → List Event → ℕ → Bool
is_filled n h x = unwrap_or (latest (filled_by n x) h) false

-- the least position of a part that is not filled; a part is full where there is none
abbrev pub first_unfilled : ℕ → List Event → ℕ → Option ℕ
first_unfilled n h i = find (λ x. not (is_filled n h x)) (positions (part_range n i))

abbrev pub is_full : ℕ → List Event → ℕ → Bool
is_full n h i = is_none (first_unfilled n h i)

-- the part of a position, where it is full
abbrev pub full_part : ℕ → List Event → ℕ → Option ℕ
full_part n h x = then_some (is_full n h (part_of x)) (part_of x)

-- that part was found; it is one of the file
pub record IsFullPart (n : ℕ) (h : List Event) (x : ℕ) (found : Option ℕ) : Type 0 where
  pub is : found ≡ full_part n h x
  pub exists : IfSome found (λ part. part < data_parts n)

-- the spans have a position in common
abbrev pub overlaps : Span → Span → Bool
overlaps r q = nat_lt (max r.s q.s) (min r.e q.e)

-- a Write stands after the last Commit
abbrev pub open_by : Event → Option Bool
open_by (Write p r) = Some true
open_by Commit = Some false
open_by _ = None

abbrev pub is_uncommitted : List Event → Bool
is_uncommitted h = unwrap_or (latest open_by h) false

-- a Write into the part stands after the last Commit
abbrev pub open_in_by : ℕ → ℕ → Event → Option Bool
open_in_by n i (Write p r) = then_some (overlaps r (part_range n i)) true
open_in_by n i Commit = Some false
open_in_by n i _ = None

abbrev pub is_part_uncommitted : ℕ → List Event → ℕ → Bool
is_part_uncommitted n h i = unwrap_or (latest (open_in_by n i) h) false

-- The events without the Writes that no Commit follows: what they say is durable.
abbrev pub is_write : Event → Bool
is_write (Write p r) = true
is_write _ = false

abbrev pub is_commit : Event → Bool
is_commit Commit = true
is_commit _ = false

abbrev pub settled_events : List Event → List Event
settled_events [] = []
settled_events (e ∷ h) = if is_write e && not (list_any is_commit h) then settled_events h else e ∷ settled_events h

-- a position is durable where it is filled by what is settled
abbrev pub is_durable : ℕ → List Event → ℕ → Bool
is_durable n h x = is_filled n (settled_events h) x

-- The spans are the maximal runs of the positions that are filled and not durable: they are not empty,
-- ascend and do not touch.
pub record AreUnsettled (n : ℕ) (h : List Event) (spans : List Span) : Type 0 where
  pub apart : IsApart 0 (n + 1) spans
  pub each : (x : ℕ) → list_any (λ r. has r x) spans ≡ (is_filled n h x && not (is_durable n h x))

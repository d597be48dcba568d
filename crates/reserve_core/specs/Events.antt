-- The log as a list of events, oldest first, and what its newest event of a kind says.
use Rattle.std.specs.Prelude.{ℕ, ◌≤◌, List, [], ◌∷◌, map, max}
use Rattle.std.specs.Option.{option_or}
use Rattle.std.specs.Prelude.{Option, Some, None}
use Rattle.reserve_core.specs.declared.event.Entry.{Entry}
use Rattle.reserve_core.specs.declared.event.Event.{Event}

-- the events of a log
abbrev pub events : List Entry → List Event
events log = map (λ entry. entry.event) log

-- what the newest event that says anything says
abbrev pub latest : {X Y : Type 0} → (X → Option Y) → List X → Option Y
latest says [] = None
latest says (e ∷ h) = option_or (latest says h) (says e)

-- the greater of a number and what is said, if anything is said
abbrev pub raise : Option ℕ → ℕ → ℕ
raise None n = n
raise (Some m) n = max m n

-- the greatest number that an event says, and at least the one given
abbrev pub greatest : {X : Type 0} → (X → Option ℕ) → ℕ → List X → ℕ
greatest says low [] = low
greatest says low (e ∷ h) = raise (says e) (greatest says low h)

-- the numbers of device calls begin at or above the first number and never fall
abbrev pub CallsRise : ℕ → List Entry → Type 0
CallsRise low [] = Unit {0}
CallsRise low (entry ∷ log) = (low ≤ entry.calls) × CallsRise entry.calls log

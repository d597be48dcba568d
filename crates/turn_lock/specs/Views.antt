-- What a pass knows, in words that contracts cite.
use Rattle.std.specs.Prelude.{◌≡◌, ℕ, ◌<◌, Bool, true, false, Option, Some, None, List, [], ◌∷◌, ◌++◌}
use mathlib.Core.Option.{some}
use lib.ListN.{get_elem?}
use Rattle.atomic_table.specs.declared.shared.Seat.{Seat}
use Rattle.turn_lock.specs.declared.known.Known.{Known}
use Rattle.turn_lock.specs.declared.known.Stage.{Stage}
use Rattle.turn_lock.specs.declared.known.Stage.TheVariants.{Idle, Waits, Holds, Calls, Spent}

-- the log begins with what was seen
abbrev pub BeginsWith : {E : Type 0} → List E → List E → Type 0
BeginsWith {E} log seen = (rest : List E) × (log ≡ seen ++ rest)

module _ {I : Type 0} where
  -- each number has the row that is noted with it
  abbrev pub Agrees : (ℕ → List I) → List (ℕ × List I) → Type 0
  Agrees rows owned = (k : ℕ) (e : ℕ × List I) → get_elem? owned k ≡ some e → e.1 ≡ rows e.0

  -- no number stands twice
  abbrev pub IsOnce : List (ℕ × List I) → Type 0
  IsOnce owned = (k l : ℕ) (d e : ℕ × List I) → get_elem? owned k ≡ some d → get_elem? owned l ≡ some e → d.0 ≡ e.0 → k ≡ l

  -- each number is less than this one
  abbrev pub AllBelow : ℕ → List (ℕ × List I) → Type 0
  AllBelow n owned = (k : ℕ) (e : ℕ × List I) → get_elem? owned k ≡ some e → e.0 < n

  -- the number that stands first, which is the pass's own
  abbrev pub first_number : List (ℕ × List I) → Option ℕ
  first_number [] = None
  first_number (e ∷ es) = Some e.0

  -- the row that stands first
  abbrev pub first_row : List (ℕ × List I) → List I
  first_row [] = []
  first_row (e ∷ es) = e.1

  -- the numbers that were taken in
  abbrev pub later : List (ℕ × List I) → List (ℕ × List I)
  later [] = []
  later (e ∷ es) = es

  -- the same numbers, the first with its row of these rows
  abbrev pub first_from : (ℕ → List I) → List (ℕ × List I) → List (ℕ × List I)
  first_from rows [] = []
  first_from rows (e ∷ es) = (e.0, rows e.0) ∷ es

module _ {T : Type 0} where
  abbrev pub is_spent : Stage T → Bool
  is_spent Spent = true
  is_spent Idle = false
  is_spent (Waits t) = false
  is_spent (Holds t x) = false
  is_spent (Calls t) = false

  -- the ticket that a pass has
  abbrev pub ticket_of : Stage T → Option ℕ
  ticket_of Idle = None
  ticket_of (Waits t) = Some t
  ticket_of (Holds t x) = Some t
  ticket_of (Calls t) = Some t
  ticket_of Spent = None

  -- the same, where its turn was called
  abbrev pub called_of : Stage T → Option ℕ
  called_of Idle = None
  called_of (Waits t) = None
  called_of (Holds t x) = Some t
  called_of (Calls t) = Some t
  called_of Spent = None

  -- the value as it was lifted, while the pass has it
  abbrev pub lifted_in : Stage T → Option T
  lifted_in Idle = None
  lifted_in (Waits t) = None
  lifted_in (Holds t x) = Some x
  lifted_in (Calls t) = None
  lifted_in Spent = None

  -- the row of a number in the value that the lock was made with
  abbrev pub start_row : {I : Type 0} → (T → ℕ → List I) → Option T → ℕ → List I
  start_row rows None n = []
  start_row rows (Some x) n = rows x n

module _ {T E I : Type 0} where
  abbrev pub at_stage : Known T E I → Stage T → Known T E I
  at_stage v stage = record v { stage = stage }

  abbrev pub birth_of : Seat (Option T) (Known T E I) → List ℕ
  birth_of s = s.me.0.birth

  abbrev pub start_of : Seat (Option T) (Known T E I) → Option T
  start_of s = s.me.0.start

  abbrev pub seen_of : Seat (Option T) (Known T E I) → List E
  seen_of s = s.me.0.seen

  abbrev pub owned_of : Seat (Option T) (Known T E I) → List (ℕ × List I)
  owned_of s = s.me.0.owned

  abbrev pub row_of : Seat (Option T) (Known T E I) → List I
  row_of s = first_row s.me.0.owned

  -- the value as it was lifted
  abbrev pub lifted_of : Seat (Option T) (Known T E I) → Option T
  lifted_of s = lifted_in s.me.0.stage

  -- the pass has no ticket and no value
  abbrev pub IsFree : Seat (Option T) (Known T E I) → Type 0
  IsFree s = (s.me.0.stage ≡ Idle) × (s.me.1 ≡ [])

  -- it is the pass's turn, and it has the value
  abbrev pub HasTurn : Seat (Option T) (Known T E I) → Type 0
  HasTurn s = ((t : ℕ) × (x : T) × (s.me.0.stage ≡ Holds t x)) × (s.me.1 ≡ (0, None) ∷ [])

  -- nothing is changed but the log that was seen
  abbrev pub OnlySees : Seat (Option T) (Known T E I) → Seat (Option T) (Known T E I) → Type 0
  OnlySees s s' = (s'.table_id ≡ s.table_id) × (s'.me ≡ (record s.me.0 { seen = s'.me.0.seen }, s.me.1))

  -- the same table, birth and start
  abbrev pub IsSamePass : Seat (Option T) (Known T E I) → Seat (Option T) (Known T E I) → Type 0
  IsSamePass s s' = (s'.table_id ≡ s.table_id) × (s'.me.0.birth ≡ s.me.0.birth) × (s'.me.0.start ≡ s.me.0.start)

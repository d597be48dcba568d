-- What each step of a pass tells it.
use Rattle.std.specs.Prelude.{◌≡◌, ◌≢◌, ℕ, Option, Some, None, List, [], ◌∷◌, ◌++◌, length}
use Rattle.atomic_table.specs.Table.{Me, Step, rest}
use Rattle.turn_lock.specs.declared.known.Known.{Known}
use Rattle.turn_lock.specs.declared.known.Stage.TheVariants.{Idle, Waits, Holds, Calls, Spent}
use Rattle.turn_lock.specs.Views.{BeginsWith, Agrees, IsOnce, AllBelow, first_from, start_row, at_stage}

-- what a pass knows, and the slots that it has
abbrev pub Place : Type 0 → Type 0 → Type 0 → Type 0
Place T E I = Me (Option T) (Known T E I)

module _ {T E I : Type 0} where
  -- where the word was as expected, the pass has that ticket
  abbrev pub draws_ticket : Step (Option T) → Place T E I → ℕ → Place T E I → Type 0
  draws_ticket st m found m' = (found ≡ st.first → m'.0 ≡ at_stage m.0 (Waits found)) × (found ≢ st.first → m'.0 ≡ m.0) × (m'.1 ≡ m.1)

  -- nothing is changed of what the pass knows
  abbrev pub rings : Step (Option T) → Place T E I → ℕ → Place T E I → Type 0
  rings st m found m' = m' ≡ m

  -- it was the turn of the pass, and now its ticket is gone
  abbrev pub calls_next : Step (Option T) → Place T E I → ℕ → Place T E I → Type 0
  calls_next st m found m' = (m.0.stage ≡ Calls found) × (m' ≡ (at_stage m.0 Idle, m.1))

  -- the pass has seen the whole log
  abbrev pub counts : Step (Option T) → Place T E I → ℕ → Place T E I → Type 0
  counts st m found m' = (found ≡ length m'.0.seen) × BeginsWith m'.0.seen m.0.seen × BeginsWith m'.0.seen m.0.told × (m' ≡ (record m.0 { seen = m'.0.seen }, m.1)) × IsOnce m.0.owned

  -- each number of the pass is below the numbers word
  abbrev pub looks_up : Step (Option T) → Place T E I → ℕ → Place T E I → Type 0
  looks_up st m found m' = (m' ≡ m) × AllBelow found m.0.owned

  -- a view is cut in two: the new one has seen as much, and has no number yet
  abbrev pub fresh : Known T E I → Known T E I
  fresh v = record v { stage = Idle; owned = [] }

  -- the left one has the numbers of both, and is told what the right one had seen
  abbrev pub both : Known T E I → Known T E I → Known T E I
  both v w = record v { told = w.seen; owned = v.owned ++ w.owned }

  abbrev pub spent : Known T E I
  spent = record { stage = Spent; birth = []; start = None; seen = []; told = []; owned = [] }

  module _ (rows : T → ℕ → List I) where
    -- where the word was as expected, that is the number of the pass, with the row that it had at the start
    abbrev pub draws_number : Step (Option T) → Place T E I → ℕ → Place T E I → Type 0
    draws_number st m found m' = (found ≡ st.first → m'.0 ≡ record m.0 { owned = (found, start_row rows m.0.start found) ∷ [] }) × (found ≢ st.first → m'.0 ≡ m.0) × (m'.1 ≡ m.1)

    module _ (birth : T → List ℕ) (log : T → List E) where
      -- what a pass knows of the value that it lifts
      pub record Fits (v : Known T E I) (x : T) : Type 0 where
        pub longer : BeginsWith (log x) v.seen
        pub same_birth : birth x ≡ v.birth
        pub same_rows : Agrees (rows x) v.owned

      abbrev pub lifts : ℕ → Place T E I → T → Place T E I → Type 0
      lifts t m x m' = (m' ≡ (record m.0 { stage = Holds t x; seen = log x }, (0, Some x) ∷ m.1)) × Fits m.0 x

      -- where the turn is that of the ticket, the value is lifted; else nothing changes
      abbrev pub looks : Step (Option T) → Place T E I → ℕ → Place T E I → Type 0
      looks st m found m' = (m.0.stage ≡ Waits found → (x : T) × lifts found m x m') × (m.0.stage ≢ Waits found → m' ≡ m)

      -- the value of the slot is laid back
      abbrev pub raises : Step (Option T) → Place T E I → ℕ → Place T E I → Type 0
      raises st m found m' = (t : ℕ) (x y : T) → m.0.stage ≡ Holds t x → m.1 ≡ (0, Some y) ∷ rest m.1
          → m' ≡ (record m.0 { stage = Calls t; seen = log y; owned = first_from (rows y) m.0.owned }, rest m.1)

    -- what the first pass knows
    abbrev pub opens : (T → List ℕ) → (T → List E) → T → Known T E I
    opens birth log x = record { stage = Idle; birth = birth x; start = Some x; seen = log x; told = []; owned = (0, rows x 0) ∷ [] }

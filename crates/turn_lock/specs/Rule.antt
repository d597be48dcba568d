-- The rule of the lock: what holds between any two steps, of the words, the slot and what the passes know.
use Rattle.std.specs.Prelude.{◌≡◌, ℕ, ◌<◌, ◌≤◌, ◌^◌, false, Option, Some, None, List, [], ◌∷◌, length, slice_index}
use mathlib.Core.Option.{Option as Opt, some}
use lib.ListN.{get_elem?}
use Rattle.atomic_table.specs.Table.{State}
use Rattle.turn_lock.specs.declared.known.Known.{Known}
use Rattle.turn_lock.specs.Views.{BeginsWith, is_spent, ticket_of, called_of, lifted_in}

module _ {T E I : Type 0} (birth : T → List ℕ) (log : T → List E) (rows : T → ℕ → List I) where
  -- what one pass knows is right, where the log is `all`, the rows are `now`, and the lock was made with `first`
  pub record Stands (first : T) (all : List E) (now : ℕ → List I) (turn tickets : ℕ) (v : Known T E I) : Type 0 where
    pub seen : BeginsWith all v.seen
    pub told : BeginsWith all v.told
    pub waits : (t : ℕ) → ticket_of v.stage ≡ Some t → (turn ≤ t) × (t < tickets)
    pub called : (t : ℕ) → called_of v.stage ≡ Some t → (t ≡ turn) × (all ≡ v.seen)
    pub lifted : (x : T) → lifted_in v.stage ≡ Some x → (n : ℕ) → rows x n ≡ now n
    pub born : is_spent v.stage ≡ false → (v.birth ≡ birth first) × (v.start ≡ Some first)

-- the numbers of passes: each is below the numbers word and has its row, none is twice, and those not given out are as at the start
pub record Numbered {T E I : Type 0} (start now : ℕ → List I) (count : ℕ) (views : List (Known T E I)) : Type 0 where
  pub right : (i : ℕ) (v : Known T E I) → get_elem? views i ≡ some v → (k : ℕ) (e : ℕ × List I) → get_elem? v.owned k ≡ some e → (e.0 < count) × (e.1 ≡ now e.0)
  pub once : (i j : ℕ) (v w : Known T E I) → get_elem? views i ≡ some v → get_elem? views j ≡ some w
      → (k l : ℕ) (d e : ℕ × List I) → get_elem? v.owned k ≡ some d → get_elem? w.owned l ≡ some e → d.0 ≡ e.0 → (i ≡ j) × (k ≡ l)
  pub unused : (n : ℕ) → count ≤ n → now n ≡ start n

module _ {T E I : Type 0} (birth : T → List ℕ) (log : T → List E) (rows : T → ℕ → List I) where
  -- the slot is at home, and its value has this log, these rows and the birth of the first
  abbrev pub IsHome : T → List E → (ℕ → List I) → List (Opt (Option T)) → Type 0
  IsHome first all now homes = (y : T) × (homes ≡ some (Some y) ∷ []) × (log y ≡ all) × (birth y ≡ birth first) × ((n : ℕ) → rows y n ≡ now n)

  pub record Kept (first : T) (s : State (Option T) (Known T E I)) : Type 0 where
    -- the one log, and the rows of the value, at home or as lifted
    pub all : List E
    pub now : ℕ → List I
    pub wide : length s.words ≡ 20
    pub fits : slice_index s.words 0 < 2 ^ 64
    pub in_turn : slice_index s.words 1 ≤ slice_index s.words 0
    pub counted : slice_index s.words 2 ≡ length all
    pub stands : (i : ℕ) (v : Known T E I) → get_elem? s.views i ≡ some v → Stands birth log rows first all now (slice_index s.words 1) (slice_index s.words 0) v
    -- each ticket from the turn on is that of one pass
    pub apart : (i j : ℕ) (v w : Known T E I) (t : ℕ) → get_elem? s.views i ≡ some v → get_elem? s.views j ≡ some w → ticket_of v.stage ≡ Some t → ticket_of w.stage ≡ Some t → i ≡ j
    pub drawn : (t : ℕ) → slice_index s.words 1 ≤ t → t < slice_index s.words 0 → (i : ℕ) × (v : Known T E I) × (get_elem? s.views i ≡ some v) × (ticket_of v.stage ≡ Some t)
    -- the slot is out only with a pass that has the value
    pub home : ((i : ℕ) (v : Known T E I) → get_elem? s.views i ≡ some v → lifted_in v.stage ≡ None) → IsHome first all now s.homes
    pub numbers : Numbered (rows first) now (slice_index s.words 3) s.views

-- The ranges that are kept for each peer that ever reserved.
use Rattle.std.specs.Prelude.{◌≡◌, ◌≢◌, ℕ, ◌+◌, ◌<◌, ◌≤◌, min, List, [], ◌∷◌, length, slice_index_or, ◌==◌, if◌then◌else◌}
use Rattle.std.specs.List.{filter, sum_by}
use Rattle.reserve_core.specs.Held.{holds_of}
use Rattle.reserve_core.specs.declared.event.Event.{Event}
use Rattle.reserve_core.specs.declared.hold.Hold.{Hold}
use Rattle.reserve_core.specs.declared.hold.Holder.{Holder}

-- the holders ascend by peer, the first at or above the number
abbrev pub Ascends : ℕ → List Holder → Type 0
Ascends low [] = Unit {0}
Ascends low (holder ∷ holders) = (low ≤ holder.peer) × Ascends (holder.peer + 1) holders

-- the ranges that are kept for a peer
abbrev pub kept_for : List Holder → ℕ → List Hold
kept_for [] p = []
kept_for (holder ∷ holders) p = if holder.peer == p then holder.ranges.items else kept_for holders p

-- What is kept is what the log says: for each peer its own ranges among those that are held, in their order,
-- so each range that is held is kept with its holder and no other is. The holders ascend by peer.
pub record HoldersStand (h : List Event) (holders : List Holder) : Type 0 where
  pub ascend : Ascends 0 holders
  pub ranges : (p : ℕ) → kept_for holders p ≡ filter (λ hold. hold.peer == p) (holds_of h)

-- how many of the peers hold a range
abbrev pub holding : List Holder → ℕ
holding holders = sum_by (λ holder. min 1 (length holder.ranges.items)) holders

-- the holder of the peer stands at a place
pub record IsAt (holders : List Holder) (p place : ℕ) : Type 0 where
  pub within : place < length holders
  pub own : (d : Holder) → (slice_index_or holders place d).peer ≡ p

-- no holder is the peer's, and its own would go to a place
pub record IsGap (holders : List Holder) (p place : ℕ) : Type 0 where
  pub within : place ≤ length holders
  pub before : (k : ℕ) (d : Holder) → k < place → (slice_index_or holders k d).peer < p
  pub behind : (k : ℕ) (d : Holder) → place ≤ k → k < length holders → p < (slice_index_or holders k d).peer

-- the peer's ranges are other ones, and all else is as before
pub record Replaces (old new : List Holder) (p : ℕ) (ranges : List Hold) : Type 0 where
  pub ascend : Ascends 0 new
  pub own : kept_for new p ≡ ranges
  pub others : (q : ℕ) → q ≢ p → kept_for new q ≡ kept_for old q
  pub holding : holding new + min 1 (length (kept_for old p)) ≡ holding old + min 1 (length ranges)

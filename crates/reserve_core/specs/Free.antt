-- The free runs of what is kept as filled and held.
use Rattle.std.specs.Prelude.{◌≡◌, ℕ, ◌<◌, ◌≤◌, Bool, true, false, not, ◌&&◌, List, get_or, take}
use Rattle.std.specs.FinSet.{FinSet, contains}
use Rattle.std.specs.List.{list_any, filter, filter_map, flat_map, range_with_len}
use Rattle.std.specs.Ordering.{nat_cmp}
use Rattle.part_sizes.specs.Block.{block_count, block_range}
use Rattle.part_sizes.specs.Span.{has}
use Rattle.part_sizes.specs.declared.span.Span.{Span}
use Rattle.reserve_core.specs.Choice.{first_run}
use Rattle.reserve_core.specs.Held.{range_of}
use Rattle.reserve_core.specs.declared.hold.Hold.{Hold}
use Rattle.reserve_core.specs.declared.hold.Holder.{Holder}

-- one of the ranges has the position
abbrev pub has_any : List Hold → ℕ → Bool
has_any held x = list_any (λ hold. has (range_of hold) x) held

-- one of the holders' ranges has the position
abbrev pub is_kept : List Holder → ℕ → Bool
is_kept holders x = list_any (λ holder. has_any holder.ranges.items x) holders

-- the position is neither in the set nor in one of the holders' ranges
abbrev pub is_clear : FinSet nat_cmp → List Holder → ℕ → Bool
is_clear set holders x = not (contains set x) && not (is_kept holders x)

-- the first run that passes of each block of a part
abbrev pub runs_in : ℕ → (ℕ → Bool) → ℕ → List Span
runs_in n passes i = filter_map (λ k. first_run passes (block_range n i k)) (range_with_len 0 (block_count n i))

-- the first three of these runs over the parts whose bits are set
abbrev pub pick_by : ℕ → (ℕ → Bool) → List Bool → List ℕ → List Span
pick_by n passes bits parts = take 3 (flat_map (runs_in n passes) (filter (λ i. get_or bits i false) parts))

-- the least position of the span that is held, or its end
pub record IsUnheld (held : ℕ → Bool) (span : Span) (end : ℕ) : Type 0 where
  pub start : span.s ≤ end
  pub below : end ≤ span.e
  pub before : (y : ℕ) → span.s ≤ y → y < end → held y ≡ false
  pub at : end < span.e → held end ≡ true

-- each position from the first to before the second is held
abbrev pub HoldsTo : (ℕ → Bool) → ℕ → ℕ → Type 0
HoldsTo held x end = (x < end) × ((y : ℕ) → x ≤ y → y < end → held y ≡ true)

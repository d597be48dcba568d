-- The order of parts by their counts.
use Rattle.std.specs.Prelude.{ℕ, ◌==◌, List, length, slice_index}
use Rattle.std.specs.List.{filter, flat_map, range_with_len}
use Rattle.std.specs.Ordering.{nat_cmp, ordering_then}
use Rattle.std.specs.declared.cmp.Ordering.{Ordering}

-- the parts with a count, ascending
abbrev pub with_count : List ℕ → ℕ → List ℕ
with_count counts count = filter (λ i. slice_index counts i == count) (range_with_len 0 (length counts))

-- for each count from 0 to below the bound, the parts with that count, ascending
abbrev pub by_count : List ℕ → ℕ → List ℕ
by_count counts bound = flat_map (with_count counts) (range_with_len 0 bound)

-- parts compare by their counts, and where these are equal by their numbers
abbrev pub count_then_number : List ℕ → ℕ → ℕ → Ordering
count_then_number counts i j = ordering_then (nat_cmp (slice_index counts i) (slice_index counts j)) (nat_cmp i j)

-- Spans of positions.
use Rattle.std.specs.Prelude.{ℕ, ◌-◌, List, Bool, nat_le, nat_lt, ◌&&◌}
use Rattle.std.specs.List.{range_with_len}
use Rattle.part_sizes.specs.declared.span.Span.{Span}

-- the position lies in the span
abbrev pub has : Span → ℕ → Bool
has span x = nat_le span.s x && nat_lt x span.e

-- the span has no position
abbrev pub is_empty : Span → Bool
is_empty span = nat_le span.e span.s

-- the positions of a span, in order
unfoldable pub positions : Span → List ℕ
positions span = range_with_len span.s (span.e - span.s)

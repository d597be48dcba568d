-- Ranges that cut a span into pieces.
use Rattle.std.specs.Prelude.{◌≡◌, ℕ, ◌+◌, ◌<◌}
use Rattle.part_sizes.specs.declared.span.Span.{Span}

-- the ranges numbered from 0 up to the count follow one another without a gap and make up the
-- whole, and none of them is empty
pub record Tiles (whole : Span) (count : ℕ) (range : ℕ → Span) : Type 0 where
  pub first : (range 0).s ≡ whole.s
  pub next : (k : ℕ) → k + 1 < count → (range (k + 1)).s ≡ (range k).e
  pub last : (k : ℕ) → k + 1 ≡ count → (range k).e ≡ whole.e
  pub filled : (k : ℕ) → k < count → (range k).s < (range k).e
  pub some : 0 < count

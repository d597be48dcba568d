-- What `Ranges` is seen as, and what is said of a span and a set of positions.
use Rattle.std.specs.Prelude.{◌≡◌, ℕ, ◌<◌, ◌≤◌, false, IsTrue, refl}
use Rattle.std.specs.Coded.{Coded, code_by, coded×, coded_ℕ}
use Rattle.std.specs.FinSet.{FinSet, code, contains, from_list}
use Rattle.std.specs.Ordering.{nat_cmp}
use Rattle.part_sizes.specs.declared.span.Span.{Span}
use Rattle.part_sizes.specs.Span.{has, positions}

-- the positions of a set below a size, and how many edits cannot want memory
pub record RangeSet : Type 0 where
  pub size : ℕ
  pub set : FinSet nat_cmp
  pub spare : ℕ

abbrev pub range_set_code : Coded RangeSet
range_set_code = code_by (ℕ × (FinSet nat_cmp × ℕ)) (coded× coded_ℕ (coded× (code coded_ℕ) coded_ℕ)) (λ r. (r.size, (r.set, r.spare))) (λ p. record { size = p.0; set = p.1.0; spare = p.1.1 }) (λ _. refl)

-- the set of a span's positions
unfoldable pub span_set : Span → FinSet nat_cmp
span_set span = from_list (positions span)

-- the span is none of a greater size
abbrev pub IsWithin : Span → ℕ → Type 0
IsWithin span size = (span.s ≤ span.e) × (span.e ≤ size)

-- the set has each position of the span
abbrev pub Covers : FinSet nat_cmp → Span → Type 0
Covers set span = (x : ℕ) → IsTrue (has span x) → IsTrue (contains set x)

-- the set has some position of the span
abbrev pub Meets : FinSet nat_cmp → Span → Type 0
Meets set span = (x : ℕ) × IsTrue (has span x) × IsTrue (contains set x)

-- the least position of the span that the set does not have
pub record IsFirstOut (set : FinSet nat_cmp) (span : Span) (x : ℕ) : Type 0 where
  pub here : IsTrue (has span x)
  pub out : contains set x ≡ false
  pub before : (y : ℕ) → span.s ≤ y → y < x → IsTrue (contains set y)

-- the set has no position of the span
abbrev pub Misses : FinSet nat_cmp → Span → Type 0
Misses set span = (x : ℕ) → IsTrue (has span x) → contains set x ≡ false

-- the least position of the span that the set has
pub record IsFirstIn (set : FinSet nat_cmp) (span : Span) (x : ℕ) : Type 0 where
  pub here : IsTrue (has span x)
  pub had : IsTrue (contains set x)
  pub before : (y : ℕ) → span.s ≤ y → y < x → contains set y ≡ false

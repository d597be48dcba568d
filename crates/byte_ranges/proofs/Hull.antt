-- The least span round a span and those near it, and the lists that an edit leaves.
use Rattle.std.proofs.Common.{◌≡◌, ℕ, ◌<◌, ◌≤◌, Bool, true, false, ◌||◌, List, [], ◌∷◌, refl, ap, ◌∙◌, arith}
use Rattle.std.proofs.lemmas.Bool.Decides.{nat_tests}
use Rattle.part_sizes.specs.declared.span.Span.{Span}
use Rattle.part_sizes.specs.Span.{has}
use Rattle.byte_ranges.specs.Spans.{Each, hull, widen}
use Rattle.byte_ranges.proofs.Each.{each_map}
use Rattle.byte_ranges.proofs.Members.{any_has}

-- a span that is not empty and overlaps or touches another
abbrev pub Touches : Span → Span → Type 0
Touches span q = (span.s ≤ q.e) × (q.s ≤ span.e) × (q.s < q.e)

has-widen : (span q : Span) (x : ℕ) → span.s < span.e → Touches span q → has (widen span q) x ≡ (has span x || has q x)
has-widen span q x filled touches = grind (arith, nat_tests)

pub or-false : (b : Bool) → b ≡ (b || false)
or-false true = refl
or-false false = refl

or_assoc : (a b c : Bool) → ((a || b) || c) ≡ (a || (b || c))
or_assoc true b c = refl
or_assoc false b c = refl

pub has-hull : (span : Span) (near : List Span) (x : ℕ) → span.s < span.e → Each (Touches span) near → has (hull span near) x ≡ (has span x || any_has near x)
has-hull span [] x filled touch = or-false (has span x)
has-hull span (q ∷ near) x filled touch =
    has-hull (widen span q) near x (omega arith) (each_map (Touches span) (Touches (widen span q)) (λ p t. (omega arith, omega arith, t.2)) near touch.1)
    ∙ ap (λ b. b || any_has near x) (has-widen span q x filled touch.0)
    ∙ or_assoc (has span x) (has q x) (any_has near x)

pub hull_grows : (span : Span) (near : List Span) → ((hull span near).s ≤ span.s) × (span.e ≤ (hull span near).e)
hull_grows span [] = (omega arith, omega arith)
hull_grows span (q ∷ near) =
    let t = hull_grows (widen span q) near in (omega (arith, t.0), omega (arith, t.1))

pub hull_from : (span : Span) (near : List Span) (start : ℕ) → start ≤ span.s → Each (λ q. start ≤ q.s) near → start ≤ (hull span near).s
hull_from span [] start low each = low
hull_from span (q ∷ near) start low each = hull_from (widen span q) near start (omega (arith, each.0)) each.1

pub hull_below : (span : Span) (near : List Span) (end : ℕ) → span.e < end → Each (λ q. q.e < end) near → (hull span near).e < end
hull_below span [] end high each = high
hull_below span (q ∷ near) end high each = hull_below (widen span q) near end (omega (arith, each.0)) each.1

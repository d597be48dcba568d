-- Lists of spans that are apart: cutting, joining, and narrower or wider ends.
use Rattle.std.proofs.Common.{ℕ, zero, suc, ◌+◌, ◌<◌, ◌≤◌, min, max, List, [], ◌∷◌, ◌++◌, take, drop, take-append-drop, subst, sym, arith}
use Rattle.std.specs.List.Sorted.{IsNonDecreasingBy}
use Rattle.part_sizes.specs.declared.span.Span.{Span}
use Rattle.byte_ranges.specs.Spans.{AreApart, Each, IsApart}
use Rattle.byte_ranges.proofs.Each.{each_at}

pub apart_wider : (low low' high high' : ℕ) (xs : List Span) → low' ≤ low → high ≤ high' → IsApart low high xs → IsApart low' high' xs
apart_wider low low' high high' [] below above h = tt
apart_wider low low' high high' (x ∷ xs) below above h =
    (omega arith, h.1, omega arith, apart_wider (x.e + 1) (x.e + 1) high high' xs (omega arith) above h.3)

-- the end of the front spans, between which and the others the list may be cut
pub apart_split : (low high : ℕ) (xs ys : List Span) → low ≤ high → IsApart low high (xs ++ ys) → (cut : ℕ) × (low ≤ cut) × (cut ≤ high) × IsApart low cut xs × IsApart cut high ys
apart_split low high [] ys within h = (low, omega arith, within, tt, h)
apart_split low high (x ∷ xs) ys within h =
    let t = apart_split (x.e + 1) high xs ys (omega arith) h.3 in
    (t.0, omega (arith, t.1, h.0, h.1), t.2, (h.0, h.1, omega (arith, t.1), t.3), t.4)

pub apart_join : (low cut high : ℕ) (xs ys : List Span) → low ≤ cut → cut ≤ high → IsApart low cut xs → IsApart cut high ys → IsApart low high (xs ++ ys)
apart_join low cut high [] ys below above g h = apart_wider cut low high high ys below (omega arith) h
apart_join low cut high (x ∷ xs) ys below above g h =
    (g.0, g.1, omega arith, apart_join (x.e + 1) cut high xs ys (omega arith) above g.3 h)

-- ends that each span keeps to
pub apart_before : (low high end : ℕ) (xs : List Span) → Each (λ x. x.e < end) xs → IsApart low high xs → IsApart low (min high end) xs
apart_before low high end [] each h = tt
apart_before low high end (x ∷ xs) each h =
    (h.0, h.1, omega arith, apart_before (x.e + 1) high end xs each.1 h.3)

pub apart_behind : (low high start : ℕ) (xs : List Span) → Each (λ x. start < x.s) xs → IsApart low high xs → IsApart (max low (start + 1)) high xs
apart_behind low high start [] each h = tt
apart_behind low high start (x ∷ xs) each h = (omega arith, h.1, h.2, h.3)

pub each_from : (low low' high : ℕ) (xs : List Span) → low' ≤ low → IsApart low high xs → Each (λ x. low' ≤ x.s) xs
each_from low low' high [] below h = tt
each_from low low' high (x ∷ xs) below h =
    (omega arith, each_from (x.e + 1) low' high xs (omega arith) h.3)

pub each_below : (low high : ℕ) (xs : List Span) → IsApart low high xs → Each (λ x. x.e < high) xs
each_below low high [] h = tt
each_below low high (x ∷ xs) h = (h.2, each_below (x.e + 1) high xs h.3)

pub each_filled : (low high : ℕ) (xs : List Span) → IsApart low high xs → Each (λ x. x.s < x.e) xs
each_filled low high [] h = tt
each_filled low high (x ∷ xs) h = (h.1, each_filled (x.e + 1) high xs h.3)

-- apart spans end, and begin, in ascending order
pub ends_ascend : (low high : ℕ) (xs : List Span) → IsApart low high xs → IsNonDecreasingBy (λ x. x.e) xs
ends_ascend low high [] h i j d before within = absurd (omega arith)
ends_ascend low high (x ∷ xs) h zero zero d before within = omega arith
ends_ascend low high (x ∷ xs) h zero (suc j) d before within =
    let from = each_at (λ q. x.e + 1 ≤ q.s) xs j d (each_from (x.e + 1) (x.e + 1) high xs (omega arith) h.3) (omega arith) in
    let filled = each_at (λ q. q.s < q.e) xs j d (each_filled (x.e + 1) high xs h.3) (omega arith) in
    omega (arith, from, filled)
ends_ascend low high (x ∷ xs) h (suc i) zero d before within = absurd (omega arith)
ends_ascend low high (x ∷ xs) h (suc i) (suc j) d before within =
    ends_ascend (x.e + 1) high xs h.3 i j d (omega arith) (omega arith)

pub starts_ascend : (low high : ℕ) (xs : List Span) → IsApart low high xs → IsNonDecreasingBy (λ x. x.s) xs
starts_ascend low high [] h i j d before within = absurd (omega arith)
starts_ascend low high (x ∷ xs) h zero zero d before within = omega arith
starts_ascend low high (x ∷ xs) h zero (suc j) d before within =
    let from = each_at (λ q. x.e + 1 ≤ q.s) xs j d (each_from (x.e + 1) (x.e + 1) high xs (omega arith) h.3) (omega arith) in
    omega (arith, from, h.1)
starts_ascend low high (x ∷ xs) h (suc i) zero d before within = absurd (omega arith)
starts_ascend low high (x ∷ xs) h (suc i) (suc j) d before within =
    starts_ascend (x.e + 1) high xs h.3 i j d (omega arith) (omega arith)

pub AreApart-drop : (i : ℕ) (xs : List Span) → AreApart xs → AreApart (drop i xs)
AreApart-drop i xs h =
    let parts : IsApart 0 h.0 (take i xs ++ drop i xs) = subst (λ ys. IsApart 0 h.0 ys) (sym (take-append-drop i xs)) h.1 in
    let t = apart_split 0 h.0 (take i xs) (drop i xs) (omega arith) parts in
    (h.0, apart_wider t.0 0 h.0 h.0 (drop i xs) (omega arith) (omega arith) t.4)

-- A fact of each span of a list.
use Rattle.std.proofs.Common.{ℕ, zero, suc, ◌<◌, List, [], ◌∷◌, ◌++◌, length, get_or, take, drop, arith}
use Rattle.std.specs.List.{AllWithin}
use Rattle.part_sizes.specs.declared.span.Span.{Span}
use Rattle.byte_ranges.specs.Spans.{Each}

pub each_map : (P Q : Span → Type 0) → ((x : Span) → P x → Q x) → (xs : List Span) → Each P xs → Each Q xs
each_map P Q f [] h = tt
each_map P Q f (x ∷ xs) h = (f x h.0, each_map P Q f xs h.1)

pub each_both : (P Q R : Span → Type 0) → ((x : Span) → P x → Q x → R x) → (xs : List Span) → Each P xs → Each Q xs → Each R xs
each_both P Q R f [] g h = tt
each_both P Q R f (x ∷ xs) g h = (f x g.0 h.0, each_both P Q R f xs g.1 h.1)

pub each_left : (P : Span → Type 0) (xs ys : List Span) → Each P (xs ++ ys) → Each P xs
each_left P [] ys h = tt
each_left P (x ∷ xs) ys h = (h.0, each_left P xs ys h.1)

pub each_at : (P : Span → Type 0) (xs : List Span) (k : ℕ) (d : Span) → Each P xs → k < length xs → P (get_or xs k d)
each_at P [] k d h within = absurd (omega arith)
each_at P (x ∷ xs) zero d h within = h.0
each_at P (x ∷ xs) (suc k) d h within = each_at P xs k d h.1 (omega arith)

each_all : (P : Span → Type 0) (xs : List Span) → AllWithin P xs 0 (length xs) → Each P xs
each_all P [] all = tt
each_all P (x ∷ xs) all =
    (all 0 x (omega arith) (omega arith), each_all P xs (λ k d low high. all (suc k) d (omega arith) (omega arith)))

-- the two sides of a partition point
pub each_take : (P : Span → Type 0) (i : ℕ) (xs : List Span) → AllWithin P xs 0 i → Each P (take i xs)
each_take P zero xs all = tt
each_take P (suc i) [] all = tt
each_take P (suc i) (x ∷ xs) all =
    (all 0 x (omega arith) (omega arith), each_take P i xs (λ k d low high. all (suc k) d (omega arith) (omega arith)))

pub each_drop : (P : Span → Type 0) (i : ℕ) (xs : List Span) → AllWithin P xs i (length xs) → Each P (drop i xs)
each_drop P zero xs all = each_all P xs all
each_drop P (suc i) [] all = tt
each_drop P (suc i) (x ∷ xs) all =
    each_drop P i xs (λ k d low high. all (suc k) d (omega arith) (omega arith))

-- The parts of bytes that are put together.
use Rattle.std.proofs.Common.{arith, ◌≡◌, sym, ◌∙◌, ap, ℕ, ◌+◌, ◌*◌, ◌≤◌, List, ◌++◌, length, take, drop, length-drop}
use Rattle.std.proofs.lemmas.List.{drop-append-le, take-append-le, drop_at, drop-drop}
use Rattle.part_sizes.specs.Part.{part}
use Rattle.part_sizes.specs.declared.part.TheConstants.{PART}

-- a part that ends within the first bytes is one of theirs
pub part-append_left : (m y : List ℕ) (i : ℕ) → (i + 1) * PART ≤ length m → part (m ++ y) i ≡ part m i
part-append_left m y i below =
    let before : i * PART ≤ length m = omega (arith, below) in
    let long : PART ≤ length (drop (i * PART) m) = omega (arith, below, length-drop (i * PART) m) in
    ap (λ (rest : List ℕ). take PART rest) (drop-append-le (i * PART) m y before)
    ∙ take-append-le PART (drop (i * PART) m) y long

-- the parts behind whole parts are those of the other bytes
pub part-append_right : (m y : List ℕ) (j i : ℕ) → length m ≡ j * PART → part (m ++ y) (j + i) ≡ part y i
part-append_right m y j i whole =
    let place : (j + i) * PART ≡ j * PART + i * PART = omega arith in
    ap (λ (n : ℕ). take PART (drop n (m ++ y))) place
    ∙ ap (λ (rest : List ℕ). take PART rest) (sym (drop-drop (i * PART) (j * PART) (m ++ y)))
    ∙ ap (λ (rest : List ℕ). take PART (drop (i * PART) rest)) (drop_at m y (j * PART) whole)

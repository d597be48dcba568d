-- A buffer that is filled from its front.
use Rattle.std.proofs.Common.{◌≡◌, ◌∙◌, sym, ap, ℕ, ◌+◌, ◌-◌, ◌≤◌, List, [], ◌++◌, length, take, drop, Option, Some, None, IfSome, append-nil, length-append, length-drop, arith}
use Rattle.std.proofs.Math.Seq.{take-add, take-append-add}
use Rattle.std.proofs.lemmas.List.{drop_all, drop-drop, length-take-le}
use Rattle.ed2k_outside.specs.Files.{Files}
use borrow.Rule.Slice.PartMut.{put_mid}

pub put-tail : (buffer tail : List ℕ) (filled : ℕ) → filled ≤ length buffer
    → put_mid filled (length buffer - filled) buffer tail ≡ take filled buffer ++ tail
put-tail buffer tail filled fits =
    let none : drop (length buffer - filled) (drop filled buffer) ≡ [] = drop_all (length buffer - filled) (drop filled buffer) (omega (arith, length-drop filled buffer)) in
    ap (λ (l : List ℕ). take filled buffer ++ (tail ++ l)) none ∙ ap (λ (l : List ℕ). take filled buffer ++ l) (append-nil tail)

pub put-long : (buffer tail : List ℕ) (filled : ℕ) → filled ≤ length buffer → length tail ≡ length buffer - filled
    → length (put_mid filled (length buffer - filled) buffer tail) ≡ length buffer
put-long buffer tail filled fits long =
    ap length (put-tail buffer tail filled fits) ∙ omega (arith, length-append (take filled buffer) tail, length-take-le filled buffer fits)

pub fill-more : (own : Option Files) (buffer tail : List ℕ) (filled n at : ℕ) → filled ≤ length buffer
    → IfSome own (λ f. take filled buffer ≡ take filled (drop at f.log)) → IfSome own (λ f. take n tail ≡ take n (drop (at + filled) f.log))
    → IfSome own (λ f. take (filled + n) (put_mid filled (length buffer - filled) buffer tail) ≡ take (filled + n) (drop at f.log))
fill-more None buffer tail filled n at fits before now = tt
fill-more (Some f) buffer tail filled n at fits before now =
    let front : List ℕ = take filled buffer in
    let long : length front ≡ filled = length-take-le filled buffer fits in
    ap (take (filled + n)) (put-tail buffer tail filled fits)
    ∙ ap (λ (k : ℕ). take (k + n) (front ++ tail)) (sym long)
    ∙ take-append-add front tail n
    ∙ ap (λ (xs : List ℕ). xs ++ take n tail) before
    ∙ ap (λ (xs : List ℕ). take filled (drop at f.log) ++ xs) (now ∙ ap (take n) (sym (drop-drop filled at f.log)))
    ∙ sym (take-add filled n (drop at f.log))

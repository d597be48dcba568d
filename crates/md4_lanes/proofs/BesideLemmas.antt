-- MD4 of four blocks in one turn.
use Rattle.std.proofs.Common.{◌≡◌, ℕ, ◌+◌, ◌-◌, ◌*◌, ◌/◌, ◌≤◌, List, length, take, drop, refl, ap, ◌∙◌, sym, arith, length-drop}
use Rattle.std.proofs.lemmas.List.{take-append-drop, length-take-le, take_all, drop-drop}
use Rattle.md4_hash.specs.Md4.{after_block, after_blocks, after}
use Rattle.md4_hash.proofs.Blocks.{after_blocks-front, after_blocks-append}

-- the registers after four blocks
pub after-four : (v quad : List ℕ) → length quad ≡ 256
    → after v quad
    ≡ after_block (after_block (after_block (after_block v (take 64 quad)) (take 64 (drop 64 quad))) (take 64 (drop 64 (drop 64 quad))))
    (drop 64 (drop 64 (drop 64 quad)))
unfolding after after_blocks
after-four v quad long =
    let count : length quad / 64 ≡ 4 = omega (arith, long) in
    let two : drop 64 (drop 64 quad) ≡ drop 128 quad = drop-drop 64 64 quad in
    let three : drop 64 (drop 64 (drop 64 quad)) ≡ drop 192 quad = ap (λ (bytes : List ℕ). drop 64 bytes) two ∙ drop-drop 64 128 quad in
    let last : take 64 (drop 192 quad) ≡ drop 192 quad = take_all 64 (drop 192 quad) (omega (arith, long, length-drop 192 quad)) in
    rw (count, three, two, last) refl

-- four blocks behind n of them
pub after_blocks-four : (v m : List ℕ) (n : ℕ) → n * 64 + 256 ≤ length m
    → after (after_blocks v m n) (take 256 (drop (n * 64) m)) ≡ after_blocks v m (n + 4)
unfolding after
after_blocks-four v m n fits =
    let front : List ℕ = take (n * 64) m in
    let rest : List ℕ = drop (n * 64) m in
    let quad : List ℕ = take 256 rest in
    let begins : length front ≡ n * 64 = length-take-le (n * 64) m (omega (arith, fits)) in
    let behind : 256 ≤ length rest = omega (arith, fits, length-drop (n * 64) m) in
    let long : length quad ≡ 256 = length-take-le 256 rest behind in
    let count : length quad / 64 ≡ 4 = omega (arith, long) in
    let before : after_blocks v m n ≡ after_blocks v front n =
    ap (λ (bytes : List ℕ). after_blocks v bytes n) (sym (take-append-drop (n * 64) m)) ∙ after_blocks-front v front rest n (omega (arith, begins)) in
    ap (after_blocks (after_blocks v m n) quad) count
    ∙ ap (λ (w : List ℕ). after_blocks w quad 4) before
    ∙ sym (after_blocks-front (after_blocks v front n) quad (drop 256 rest) 4 (omega (arith, long)))
    ∙ ap (λ (bytes : List ℕ). after_blocks (after_blocks v front n) bytes 4) (take-append-drop 256 rest)
    ∙ sym (after_blocks-append v front rest n 4 begins)
    ∙ ap (λ (bytes : List ℕ). after_blocks v bytes (n + 4)) (take-append-drop (n * 64) m)

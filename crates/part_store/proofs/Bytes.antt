-- The bytes that are read from a body, piece by piece.
use Rattle.std.proofs.Common.{◌≡◌, ℕ, ◌+◌, ◌-◌, ◌≤◌, List, ◌++◌, take, drop, Option, Some, None, IfSome, sym, ap, ◌∙◌, arith}
use Rattle.std.proofs.Math.Seq.{take-add}
use Rattle.std.proofs.lemmas.List.{drop-drop}
use Rattle.ed2k_outside.specs.Files.{Files}

-- a piece that is read behind those so far goes on with the bytes of the span
piece-behind : (s at n : ℕ) (hasher now buffer body : List ℕ) → s ≤ at → hasher ≡ take (at - s) (drop s body) → take n buffer ≡ take n (drop at body) → now ≡ hasher ++ take n buffer
    → now ≡ take (at + n - s) (drop s body)
piece-behind s at n hasher now buffer body above hashed read fed =
    let at_is : at ≡ s + (at - s) = omega arith in
    let there : drop at body ≡ drop (at - s) (drop s body) = ap (λ (k : ℕ). drop k body) at_is ∙ sym (drop-drop (at - s) s body) in
    let sum : at + n - s ≡ at - s + n = omega arith in
    fed ∙ ap (λ front. front ++ take n buffer) hashed ∙ ap (λ bytes. take (at - s) (drop s body) ++ bytes) (read ∙ ap (take n) there)
    ∙ sym (take-add (at - s) n (drop s body)) ∙ ap (λ k. take k (drop s body)) (sym sum)

some_is : (a b : Files) → Some a ≡ Some b → a ≡ b
some_is a b same = cc

pub hashed-more : (old files : Option Files) (s at n : ℕ) (hasher now buffer : List ℕ) → s ≤ at → files ≡ old
    → IfSome old (λ files. hasher ≡ take (at - s) (drop s files.body)) → IfSome files (λ files. take n buffer ≡ take n (drop at files.body)) → now ≡ hasher ++ take n buffer
    → IfSome files (λ files. now ≡ take (at + n - s) (drop s files.body))
hashed-more None None s at n hasher now buffer above same hashed read fed = tt
hashed-more None (Some files) s at n hasher now buffer above same hashed read fed = absurd (cc)
hashed-more (Some old) None s at n hasher now buffer above same hashed read fed = absurd (cc)
hashed-more (Some old) (Some files) s at n hasher now buffer above same hashed read fed =
    let body : files.body ≡ old.body = ap (λ (f : Files). f.body) (some_is files old same) in
    piece-behind s at n hasher now buffer files.body above (hashed ∙ ap (λ bytes. take (at - s) (drop s bytes)) (sym body)) read fed

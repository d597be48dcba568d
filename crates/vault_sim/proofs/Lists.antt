-- Lists of bytes that are written over, cut and filled up.
use Rattle.std.proofs.Common.{◌≡◌, ◌⊎◌, ℕ, ◌+◌, ◌-◌, ◌≤◌, min, max, List, [], ◌++◌, length, take, drop, replicate, refl, sym, ap, ◌∙◌, subst, inl, inr, arith, length-append, length-drop, append_assoc, take-append-drop}
use Rattle.std.proofs.lemmas.List.{drop-drop, drop_at, take_at, take_all, drop_all, take-append-le, take-take, length-take, length-take-le, append-nil, length-replicate}
use Rattle.std.proofs.lemmas.Bool.{cases_lt}
use Rattle.ed2k_outside.specs.Crashes.{Torn, Stretched}
use Rattle.ed2k_outside.specs.Files.{overwritten, resized}

pub length-overwritten : (file piece : List ℕ) (at : ℕ) → at ≤ length file → length (overwritten file at piece) ≡ max (length file) (at + length piece)
length-overwritten file piece at within =
    omega (arith, length-append (take at file ++ piece) (drop (at + length piece) file), length-append (take at file) piece, length-take at file, length-drop (at + length piece) file)

pub front-overwritten : (file piece : List ℕ) (at : ℕ) → at ≤ length file → take at (overwritten file at piece) ≡ take at file
front-overwritten file piece at within =
    ap (take at) (append_assoc (take at file) piece (drop (at + length piece) file))
    ∙ take_at (take at file) (piece ++ drop (at + length piece) file) at (length-take-le at file within)

behind-overwritten : (file piece : List ℕ) (at : ℕ) → at ≤ length file → drop (at + length piece) (overwritten file at piece) ≡ drop (at + length piece) file
behind-overwritten file piece at within =
    drop_at (take at file ++ piece) (drop (at + length piece) file) (at + length piece) (omega (arith, length-append (take at file) piece, length-take at file))

-- a piece of n bytes, or one that ends at or past the end and has at most n
pub torn-overwritten : (file piece : List ℕ) (at n : ℕ) → at ≤ length file → length piece ≤ n → (length piece ≡ n) ⊎ (length file ≤ at + length piece) → Torn at n file (overwritten file at piece)
torn-overwritten file piece at n within fits ends = record {
  before = front-overwritten file piece at within;
  after = elim ends [
    | inl whole ↦ subst (λ k. drop (at + k) (overwritten file at piece) ≡ drop (at + k) file) whole (behind-overwritten file piece at within)
    | inr past ↦ drop_all (at + n) (overwritten file at piece) (omega (arith, long)) ∙ sym (drop_all (at + n) file (omega arith))
  ];
  no_shorter = omega (arith, long);
  no_longer = omega (arith, long);
}
  where
    long : length (overwritten file at piece) ≡ max (length file) (at + length piece)
    long = length-overwritten file piece at within

-- what stood behind a piece that is taken out again
behind-undone : (file piece : List ℕ) (at : ℕ) → at ≤ length file
    → drop (at + length (take (length piece) (drop at file))) (take (length file) (overwritten file at piece)) ≡ drop (length piece) (drop at file)
behind-undone file piece at within =
    let long : length (overwritten file at piece) ≡ max (length file) (at + length piece) = length-overwritten file piece at within in
    let lost : length (take (length piece) (drop at file)) ≡ min (length piece) (length file - at) = omega (arith, length-take (length piece) (drop at file), length-drop at file) in
    elim (cases_lt (length file) (at + length piece)) [
      | inl past ↦
          drop_all (at + length (take (length piece) (drop at file))) (take (length file) (overwritten file at piece)) (omega (arith, lost, length-take (length file) (overwritten file at piece)))
          ∙ sym (drop_all (length piece) (drop at file) (omega (arith, length-drop at file)))
      | inr inside ↦
          let same : at + length (take (length piece) (drop at file)) ≡ at + length piece = omega (arith, lost) in
          ap (λ (n : ℕ). drop n (take (length file) (overwritten file at piece))) same
          ∙ ap (drop (at + length piece)) (take_all (length file) (overwritten file at piece) (omega (arith, long)))
          ∙ behind-overwritten file piece at within
          ∙ sym (drop-drop (length piece) at file)
    ]

-- a write is undone
pub overwritten-undone : (file piece : List ℕ) (at : ℕ) → at ≤ length file → overwritten (take (length file) (overwritten file at piece)) at (take (length piece) (drop at file)) ≡ file
overwritten-undone file piece at within =
    let lost = take (length piece) (drop at file) in
    let now = take (length file) (overwritten file at piece) in
    let front : take at now ≡ take at file = take-take at (length file) (overwritten file at piece) within ∙ front-overwritten file piece at within in
    ap (λ (bytes : List ℕ). bytes ++ lost ++ drop (at + length lost) now) front
    ∙ ap (λ (bytes : List ℕ). take at file ++ lost ++ bytes) (behind-undone file piece at within)
    ∙ append_assoc (take at file) lost (drop (length piece) (drop at file))
    ∙ ap (λ (bytes : List ℕ). take at file ++ bytes) (take-append-drop (length piece) (drop at file))
    ∙ take-append-drop at file

-- the file cut to k bytes, or filled up to them with a byte
abbrev pub filled : List ℕ → ℕ → ℕ → List ℕ
filled file k byte = take k file ++ replicate (k - length file) byte

pub length-filled : (file : List ℕ) (k byte : ℕ) → length (filled file k byte) ≡ k
length-filled file k byte = omega (arith, length-append (take k file) (replicate (k - length file) byte), length-take k file, length-replicate (k - length file) byte)

-- a change of the length is undone
pub resized-undone : (file : List ℕ) (n : ℕ) → overwritten (take (length file) (resized file n)) (min n (length file)) (take (length file) (drop (min n (length file)) file)) ≡ file
resized-undone file n =
    let at = min n (length file) in
    let lost = take (length file) (drop at file) in
    let now = take (length file) (resized file n) in
    let whole : lost ≡ drop at file = take_all (length file) (drop at file) (omega (arith, length-drop at file)) in
    let front : take at now ≡ take at file =
    take-take at (length file) (resized file n) (omega arith) ∙ take-append-le at (take n file) (replicate (n - length file) 0) (omega (arith, length-take n file)) ∙ take-take at n file (omega arith) in
    let end : drop (at + length lost) now ≡ [] =
    drop_all (at + length lost) now (omega (arith, length-take (length file) (drop at file), length-drop at file, length-take (length file) (resized file n))) in
    ap (λ (bytes : List ℕ). bytes ++ lost ++ drop (at + length lost) now) front
    ∙ ap (λ (bytes : List ℕ). take at file ++ lost ++ bytes) end
    ∙ append-nil (take at file ++ lost)
    ∙ ap (λ (bytes : List ℕ). take at file ++ bytes) whole
    ∙ take-append-drop at file

-- a length between the old and the new
pub stretched-filled : (file : List ℕ) (n k byte : ℕ) → min n (length file) ≤ k → k ≤ max n (length file) → Stretched n file (filled file k byte)
stretched-filled file n k byte least most = record {
  no_shorter = omega (arith, length-filled file k byte);
  no_longer = omega (arith, length-filled file k byte);
  front = elim (cases_lt (length file) k) [
    | inl longer ↦ take_at (take k file) (replicate (k - length file) byte) (length file) (omega (arith, length-take k file)) ∙ ap (λ (j : ℕ). take j file) (sym (length-filled file k byte))
    | inr shorter ↦
        let none : k - length file ≡ 0 = omega arith in
        take_all (length file) (filled file k byte) (omega (arith, length-filled file k byte))
        ∙ ap (λ (j : ℕ). take k file ++ replicate j byte) none
        ∙ append-nil (take k file)
        ∙ ap (λ (j : ℕ). take j file) (sym (length-filled file k byte))
  ];
}

pub stretched-resized : (file : List ℕ) (n : ℕ) → Stretched n file (resized file n)
stretched-resized file n = stretched-filled file n n 0 (omega arith) (omega arith)

-- a call that changed nothing is undone
pub kept-undone : (file : List ℕ) → overwritten (take (length file) file) (length file) [] ≡ file
kept-undone file =
    let all : take (length file) file ≡ file = take_all (length file) file (omega arith) in
    ap (λ (bytes : List ℕ). take (length file) bytes ++ [] ++ drop (length file + 0) bytes) all
    ∙ ap (λ (bytes : List ℕ). bytes ++ [] ++ drop (length file + 0) file) all
    ∙ ap (λ (bytes : List ℕ). file ++ [] ++ bytes) (drop_all (length file + 0) file (omega arith))
    ∙ append-nil (file ++ [])
    ∙ append-nil file

pub torn-refl : (at n : ℕ) (file : List ℕ) → Torn at n file file
torn-refl at n file = record { before = refl; after = refl; no_shorter = omega arith; no_longer = omega arith }

pub stretched-refl : (n : ℕ) (file : List ℕ) → Stretched n file file
stretched-refl n file = record { no_shorter = omega arith; no_longer = omega arith; front = refl }

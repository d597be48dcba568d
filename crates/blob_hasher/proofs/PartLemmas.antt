-- Bytes of a blob that come piece by piece.
use Rattle.std.proofs.Common.{◌≡◌, ◌∙◌, sym, ap, ℕ, ◌+◌, ◌-◌, ◌*◌, ◌≤◌, List, ◌++◌, length, take, drop, Option, Some, None, IfSome, length-append, arith}
use Rattle.std.proofs.Math.Seq.{take-add, take-append-add}
use Rattle.std.proofs.lemmas.List.{append_assoc, drop-drop, length-take-le}
use borrow.Rule.Slice.PartMut.{put_mid}
use Rattle.md4_hash.proofs.Pieces.{put_mid_full}
use Rattle.part_sizes.specs.declared.part.TheConstants.{PART}
use Rattle.blob_hasher.specs.declared.part.PartHasher.{PartHasher}
use Rattle.blob_hasher.specs.declared.four_parts.FourParts.{FourParts}
use Rattle.blob_hasher.specs.declared.file.FileHasher.{FileHasher}
use Rattle.blob_hasher.specs.Parts.{Takes, IsPart, IsFour, IsFile, all_of}

-- ---- a buffer that is filled from its front

pub length-put_tail : (buffer tail : List ℕ) (filled : ℕ) → filled ≤ length buffer → length tail ≡ length buffer - filled
    → length (put_mid filled (length buffer - filled) buffer tail) ≡ length buffer
length-put_tail buffer tail filled fits long =
    let front = length-take-le filled buffer fits in
    ap (λ (xs : List ℕ). length xs) (put_mid_full filled (length buffer - filled) buffer tail (omega (arith, fits)))
    ∙ length-append (take filled buffer) tail
    ∙ omega (arith, front, long, fits)

pub fill_more : (own : Option (List ℕ)) (buffer tail : List ℕ) (filled n at : ℕ) → filled ≤ length buffer
    → IfSome own (λ bytes. take filled buffer ≡ take filled (drop at bytes)) → IfSome own (λ bytes. take n tail ≡ take n (drop (at + filled) bytes))
    → IfSome own (λ bytes. take (filled + n) (put_mid filled (length buffer - filled) buffer tail) ≡ take (filled + n) (drop at bytes))
fill_more None buffer tail filled n at fits before now = tt
fill_more (Some bytes) buffer tail filled n at fits before now =
    let front : List ℕ = take filled buffer in
    let long : length front ≡ filled = length-take-le filled buffer fits in
    ap (λ (xs : List ℕ). take (filled + n) xs) (put_mid_full filled (length buffer - filled) buffer tail (omega (arith, fits)))
    ∙ ap (λ (k : ℕ). take (k + n) (front ++ tail)) (sym long)
    ∙ take-append-add front tail n
    ∙ ap (λ (xs : List ℕ). xs ++ take n tail) before
    ∙ ap (λ (xs : List ℕ). take filled (drop at bytes) ++ xs) (now ∙ ap (λ (xs : List ℕ). take n xs) (sym (drop-drop filled at bytes)))
    ∙ sym (take-add filled n (drop at bytes))

-- ---- a piece behind those of a part

pub told_more : (own : Option (List ℕ)) (fed piece : List ℕ) (start place n : ℕ)
    → IfSome own (λ bytes. fed ≡ take place (drop start bytes)) → IfSome own (λ bytes. piece ≡ take n (drop (start + place) bytes))
    → IfSome own (λ bytes. fed ++ piece ≡ take (place + n) (drop start bytes))
told_more None fed piece start place n before now = tt
told_more (Some bytes) fed piece start place n before now =
    ap (λ (xs : List ℕ). xs ++ piece) before
    ∙ ap (λ (xs : List ℕ). take place (drop start bytes) ++ xs) (now ∙ ap (λ (xs : List ℕ). take n xs) (sym (drop-drop place start bytes)))
    ∙ sym (take-add place n (drop start bytes))

pub IsPart-more : (own read : Option (List ℕ)) (start place at n m all : ℕ) (old new : PartHasher) (piece : List ℕ) → IsPart own start place old
    → Takes old new piece → IfSome read (λ bytes. piece ≡ take m (drop at bytes)) → read ≡ own → at ≡ start + place → m ≡ n → length piece ≡ n
    → place + n ≡ all → IsPart own start all new
IsPart-more own read start place at n m all old new piece part takes now same_blob here count long end =
    let told = told_more own old.md4 piece start place n part.told (rw (same_blob, here, count) at now) in
    record {
      size = takes.size ∙ part.size;
      counted = ap (λ (xs : List ℕ). length xs) takes.md4 ∙ length-append old.md4 piece ∙ omega (arith, part.counted, long, end);
      same = takes.md4 ∙ ap (λ (fed : List ℕ). fed ++ piece) part.same ∙ sym takes.tree;
      told = rw (takes.md4, ← end) told;
    }

-- ---- parts behind the bytes of a file

file_told : (own : Option (List ℕ)) (fed piece : List ℕ) (at n : ℕ)
    → IfSome own (λ bytes. fed ≡ take at bytes) → IfSome own (λ bytes. piece ≡ take n (drop at bytes))
    → IfSome own (λ bytes. fed ++ piece ≡ take (at + n) bytes)
file_told None fed piece at n before now = tt
file_told (Some bytes) fed piece at n before now =
    ap (λ (xs : List ℕ). xs ++ piece) before ∙ ap (λ (xs : List ℕ). take at bytes ++ xs) now ∙ sym (take-add at n bytes)

pub IsFile-more : (own : Option (List ℕ)) (all at n : ℕ) (old new : FileHasher) (piece : List ℕ) → IsFile own all at old
    → new.tree.size ≡ old.tree.size → new.set ≡ old.set ++ piece → new.set ≡ new.tree.fed → length piece ≡ n
    → IfSome own (λ bytes. piece ≡ take n (drop at bytes)) → IsFile own all (at + n) new
IsFile-more own all at n old new piece file sized fed same long now =
    record {
      size = sized ∙ file.size;
      counted = ap (λ (xs : List ℕ). length xs) fed ∙ length-append old.set piece ∙ omega (arith, file.counted, long);
      same = same;
      told = rw fed (file_told own old.set piece at n file.told now);
    }

pub IsFile-part : (own read : Option (List ℕ)) (all at n : ℕ) (old new : FileHasher) (part : PartHasher) → IsFile own all at old
    → IsPart read at n part → read ≡ own → new.tree.size ≡ old.tree.size → new.set ≡ old.set ++ part.md4
    → new.tree.fed ≡ old.tree.fed ++ part.md4 → IsFile own all (at + n) new
IsFile-part own read all at n old new part file hashed same_blob sized fed grown =
    IsFile-more own all at n old new part.md4 file sized fed
    (fed ∙ ap (λ (xs : List ℕ). xs ++ part.md4) file.same ∙ sym grown) hashed.counted (rw same_blob at hashed.told)

four_long : (a b c d : List ℕ) (n : ℕ) → length a ≡ n → length b ≡ n → length c ≡ n → length d ≡ n → length (a ++ (b ++ (c ++ d))) ≡ 4 * n
four_long a b c d n la lb lc ld =
    let outer = length-append a (b ++ (c ++ d)) in
    let middle = length-append b (c ++ d) in
    let inner = length-append c d in
    omega (arith, outer, middle, inner, la, lb, lc, ld)

four_told : (own : Option (List ℕ)) (start : ℕ) (parts : FourParts) → IsFour own start PART parts
    → IfSome own (λ bytes. all_of parts ≡ take (4 * PART) (drop start bytes))
four_told None start parts four = tt
four_told (Some bytes) start parts four =
    let a = parts.first.md4 in let b = parts.second.md4 in let c = parts.third.md4 in let d = parts.fourth.md4 in
    let two = told_more (Some bytes) a b start PART PART four.first.told four.second.told in
    let three = told_more (Some bytes) (a ++ b) c start (2 * PART) PART two four.third.told in
    let all = told_more (Some bytes) ((a ++ b) ++ c) d start (3 * PART) PART three four.fourth.told in
    sym (append_assoc a b (c ++ d)) ∙ sym (append_assoc (a ++ b) c d) ∙ all

pub IsFile-four : (own : Option (List ℕ)) (all start : ℕ) (old new : FileHasher) (parts : FourParts) → IsFile own all start old
    → IsFour own start PART parts → new.tree.size ≡ old.tree.size → new.set ≡ old.set ++ all_of parts → new.set ≡ new.tree.fed
    → IsFile own all (start + 4 * PART) new
IsFile-four own all start old new parts file four sized fed same =
    IsFile-more own all start (4 * PART) old new (all_of parts) file sized fed same
    (four_long parts.first.md4 parts.second.md4 parts.third.md4 parts.fourth.md4 PART four.first.counted four.second.counted four.third.counted four.fourth.counted)
    (four_told own start parts four)

-- The header's fields are written into their places.
use Rattle.std.proofs.Common.{◌≡◌, ℕ, List, [], ◌∷◌, ◌++◌, length, take, drop, replicate, Option, Some, None, refl, sym, ap, ◌∙◌, arith, append_assoc, length-append, slice_set, subst}
use Rattle.std.proofs.lemmas.List.{drop_at, set_at, take_at}
use Rattle.byteorder.specs.Endian.{little_bytes}
use Rattle.journal_core.specs.Fresh.{EndsFields}
use Rattle.journal_core.specs.Headers.{IsKeptSize, IsRoot}
use Rattle.journal_core.specs.declared.header.Header.{Header}
use borrow.Rule.Slice.PartMut.{put_mid}

-- what is put behind a front
put-behind : (a k : ℕ) (p z ys : List ℕ) → length p ≡ a → put_mid a k (p ++ z) ys ≡ p ++ (ys ++ drop k z)
put-behind a k p z ys long =
    ap (λ (l : List ℕ). l ++ (ys ++ drop k (drop a (p ++ z)))) (take_at p z a long)
    ∙ ap (λ (l : List ℕ). p ++ (ys ++ drop k l)) (drop_at p z a long)

abbrev blank : List ℕ
blank = replicate 20 0 ++ 0 ∷ []

hashed : (a h : List ℕ) → length a ≡ 8 → length h ≡ 16 → put_mid 8 16 (a ++ replicate 38 0) h ≡ (a ++ h) ++ 0 ∷ blank
hashed a h eight sixteen = put-behind 8 16 a (replicate 38 0) h eight ∙ sym (append_assoc a h (0 ∷ blank))

front-long : (a h : List ℕ) → length a ≡ 8 → length h ≡ 16 → length (a ++ h) ≡ 24
front-long a h eight sixteen = omega (arith, length-append a h)

rooted : (p root : List ℕ) → length p ≡ 24 → length root ≡ 20 → put_mid 25 20 (slice_set (p ++ 0 ∷ blank) 24 1) root ≡ (p ++ 1 ∷ root) ++ 0 ∷ []
rooted p root long twenty =
    ap (λ (l : List ℕ). put_mid 25 20 l root) (set_at p 0 blank 1 24 long ∙ sym (append_assoc p (1 ∷ []) blank))
    ∙ put-behind 25 20 (p ++ 1 ∷ []) blank root (omega (arith, length-append p (1 ∷ [])))
    ∙ append_assoc p (1 ∷ []) (root ++ 0 ∷ []) ∙ sym (append_assoc p (1 ∷ root) (0 ∷ []))

hash-long : (n : ℕ) (a h : List ℕ) → a ≡ little_bytes 8 n → length h ≡ length (take 16 (drop 8 (a ++ replicate 38 0))) → length h ≡ 16
hash-long n a h number long = long ∙ ap (λ (l : List ℕ). length (take 16 (drop 8 (l ++ replicate 38 0)))) number

number-long : (n : ℕ) (a : List ℕ) → a ≡ little_bytes 8 n → length a ≡ 8
number-long n a number = ap length number

pub fields-none : (h : Header) (a hash : List ℕ) → IsKeptSize h.size → h.root ≡ None → a ≡ little_bytes 8 h.size → hash ≡ h.hash
    → length hash ≡ length (take 16 (drop 8 (a ++ replicate 38 0))) → EndsFields h (put_mid 8 16 (a ++ replicate 38 0) hash)
fields-none h a hash sized none number same len =
    let long = hash-long h.size a hash number len in
    let root : IsRoot h.root (0 ∷ replicate 20 0) = subst (λ (o : Option (List ℕ)). IsRoot o (0 ∷ replicate 20 0)) (sym none) (replicate 20 0, refl, refl) in (
      (a ++ hash) ++ 0 ∷ replicate 20 0,
      record { root = 0 ∷ replicate 20 0; rooted = root; sized = sized; hashed = ap length (sym same) ∙ long; whole = ap (λ (l : List ℕ). (l ++ hash) ++ 0 ∷ replicate 20 0) number ∙ ap (λ (l : List ℕ). (little_bytes 8 h.size ++ l) ++ 0 ∷ replicate 20 0) same },
      hashed a hash (number-long h.size a number) long ∙ sym (append_assoc (a ++ hash) (0 ∷ replicate 20 0) (0 ∷ [])),
    )

pub fields-some : (h : Header) (a hash given root : List ℕ) → IsKeptSize h.size → h.root ≡ Some given → a ≡ little_bytes 8 h.size → hash ≡ h.hash
    → length hash ≡ length (take 16 (drop 8 (a ++ replicate 38 0))) → root ≡ given
    → length root ≡ length (take 20 (drop 25 (slice_set (put_mid 8 16 (a ++ replicate 38 0) hash) 24 1)))
    → EndsFields h (put_mid 25 20 (slice_set (put_mid 8 16 (a ++ replicate 38 0) hash) 24 1) root)
fields-some h a hash given root sized some number same len kept root_len =
    let long = hash-long h.size a hash number len in
    let eight = number-long h.size a number in
    let p = a ++ hash in
    let whole = hashed a hash eight long in
    let marked : slice_set (put_mid 8 16 (a ++ replicate 38 0) hash) 24 1 ≡ p ++ 1 ∷ blank =
    ap (λ (l : List ℕ). slice_set l 24 1) whole ∙ set_at p 0 blank 1 24 (front-long a hash eight long) in
    let behind : drop 25 (p ++ 1 ∷ blank) ≡ blank =
    ap (drop 25) (sym (append_assoc p (1 ∷ []) blank)) ∙ drop_at (p ++ 1 ∷ []) blank 25 (omega (arith, front-long a hash eight long, length-append p (1 ∷ []))) in
    let twenty : length root ≡ 20 = root_len ∙ ap (λ (l : List ℕ). length (take 20 (drop 25 l))) marked ∙ ap (λ (l : List ℕ). length (take 20 l)) behind in
    let is_root : IsRoot h.root (1 ∷ root) = subst (λ (o : Option (List ℕ)). IsRoot o (1 ∷ root)) (sym (some ∙ ap Some (sym kept))) (twenty, refl) in (
      p ++ 1 ∷ root,
      record { root = 1 ∷ root; rooted = is_root; sized = sized; hashed = ap length (sym same) ∙ long; whole = ap (λ (l : List ℕ). (l ++ hash) ++ 1 ∷ root) number ∙ ap (λ (l : List ℕ). (little_bytes 8 h.size ++ l) ++ 1 ∷ root) same },
      ap (λ (l : List ℕ). put_mid 25 20 (slice_set l 24 1) root) whole ∙ rooted p root (front-long a hash eight long) twenty,
    )

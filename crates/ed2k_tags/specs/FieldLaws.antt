-- A field that is spelled is read again, and what is read is spelled so.
use Rattle.std.proofs.Common.{◌≡◌, ℕ, ◌+◌, ◌*◌, ◌/◌, ◌%◌, ◌^◌, ◌<◌, ◌≤◌, Bool, true, false, cond, ltb, List, [], ◌∷◌, ◌++◌, length, get_or, take, drop, Option, Some, None, refl, sym, ap, subst, ◌∙◌, append_assoc, arith, inl, inr}
use Rattle.std.proofs.lemmas.Bool.{cases_lt, ltb-false, le-ltb}
use Rattle.std.proofs.lemmas.List.{append-nil, take_at, drop_at, take-append-drop, length-append, length-take, get_or-drop, get_or-take, get_or_past}
use Rattle.std.proofs.lemmas.Nat.{le_bytes_2, le_bytes_4, le_bytes_8}
use Rattle.byteorder.specs.Endian.{little_bytes, little_number}
use Rattle.byteorder.specs.Numbers.{little_number-reads_back, little_from-take, little_from-lt, length-bytes_low_first}
use Rattle.ed2k_tags.specs.Fields.{number_at, bytes_at, then_at, counted_at, counted, made}
use Rattle.ed2k_tags.specs.Grammar.{IsNumber, IsCounted, IsPlain}

abbrev pub IsBytes : List ℕ → Type 0
IsBytes bytes = (i : ℕ) → get_or bytes i 0 < 256

pub IsBytes-drop : (n : ℕ) (bytes : List ℕ) → IsBytes bytes → IsBytes (drop n bytes)
IsBytes-drop n bytes h i = rw get_or-drop (h (n + i))

pub IsBytes-take : (n : ℕ) (bytes : List ℕ) → IsBytes bytes → IsBytes (take n bytes)
IsBytes-take n bytes h i =
    elim (cases_lt i n) [
      | inl lt ↦ rw (get_or-take n bytes i 0 lt) (h i)
      | inr le ↦ rw (get_or_past (take n bytes) i 0 (omega (arith, length-take n bytes))) (omega arith)
    ]

-- ---- what is spelled is read again

pub number_again : (size n : ℕ) (rest : List ℕ) → n < 256 ^ size → number_at size (little_bytes size n ++ rest) ≡ Some (n, rest)
number_again size n rest lt =
    let len = length-bytes_low_first 0 size n in
    let long : ltb (length (little_bytes size n ++ rest)) size ≡ false = le-ltb _ _ (omega (arith, length-append (little_bytes size n) rest, len)) in
    rw (long, little_number-reads_back size n rest lt, drop_at (little_bytes size n) rest size len) refl

pub bytes_again : (count : ℕ) (text rest : List ℕ) → length text ≡ count → bytes_at count (text ++ rest) ≡ Some (text, rest)
bytes_again count text rest len =
    let long : ltb (length (text ++ rest)) count ≡ false = le-ltb _ _ (omega (arith, length-append text rest, len)) in
    rw (long, take_at text rest count len, drop_at text rest count len) refl

pub counted_again : (size : ℕ) (text rest : List ℕ) → length text < 256 ^ size → counted_at size (counted size text ++ rest) ≡ Some (text, rest)
counted_again size text rest lt =
    ap (counted_at size) (append_assoc (little_bytes size (length text)) text rest)
    ∙ ap (λ (o : Option (ℕ × List ℕ)). then_at o bytes_at) (number_again size (length text) (text ++ rest) lt)
    ∙ bytes_again (length text) text rest refl

-- ---- a field that is all that is left

pub bytes_whole : (count : ℕ) (text : List ℕ) → length text ≡ count → bytes_at count text ≡ Some (text, [])
bytes_whole count text len = ap (bytes_at count) (sym (append-nil text)) ∙ bytes_again count text [] len

pub number_whole : (size n : ℕ) → n < 256 ^ size → number_at size (little_bytes size n) ≡ Some (n, [])
number_whole size n lt = ap (number_at size) (sym (append-nil (little_bytes size n))) ∙ number_again size n [] lt

pub counted_whole : (size : ℕ) (text : List ℕ) → length text < 256 ^ size → counted_at size (counted size text) ≡ Some (text, [])
counted_whole size text lt = ap (counted_at size) (sym (append-nil (counted size text))) ∙ counted_again size text [] lt

-- a number is what its bytes make
pub four_is : (n : ℕ) → n < 2 ^ 32 → n % 256 + 256 * (n / 256 % 256 + 256 * (n / 65536 % 256 + 256 * (n / 16777216 % 256 + 0))) ≡ n
four_is n lt = omega arith

pub two_is : (n : ℕ) → n < 2 ^ 16 → n % 256 + 256 * (n / 256 % 256 + 0) ≡ n
two_is n lt = omega arith

-- ---- what is read is spelled so

-- the front of the bytes is so, and the rest follows it
pub record Takes (Is : List ℕ → Type 0) (bytes rest : List ℕ) : Type 0 where
  pub text : List ℕ
  pub is : Is text
  pub parts : bytes ≡ text ++ rest
  pub rest_fits : IsBytes rest

-- what a test that was passed gives
pub guarded : {A : Type 0} (b : Bool) (x y : A) → cond b None (Some x) ≡ Some y → (b ≡ false) × (x ≡ y)
guarded true x y e = absurd cc
guarded false x y e = (refl, cc)

-- the sizes of numbers
pub record IsWidth (size : ℕ) : Type 0 where
  pub back : (bytes : List ℕ) → length bytes ≡ size → IsBytes bytes → little_bytes size (little_number size bytes) ≡ bytes

one_back : (bytes : List ℕ) → length bytes ≡ 1 → IsBytes bytes → little_bytes 1 (little_number 1 bytes) ≡ bytes
one_back [] len fits = absurd (omega arith)
one_back (a ∷ []) len fits = ap (λ (x : ℕ). x ∷ []) (omega (arith, fits 0))
one_back (a ∷ b ∷ more) len fits = absurd (omega arith)

pub one : IsWidth 1
one = record { back = one_back }

pub two : IsWidth 2
two = record { back = λ bytes len fits. le_bytes_2 bytes _ len fits (omega arith) }

pub four : IsWidth 4
four = record { back = λ bytes len fits. le_bytes_4 bytes _ len fits (omega arith) }

pub eight : IsWidth 8
eight = record { back = λ bytes len fits. le_bytes_8 bytes _ len fits (omega arith) }

pub number_takes : (size : ℕ) → IsWidth size → (bytes : List ℕ) (n : ℕ) (rest : List ℕ) → IsBytes bytes → number_at size bytes ≡ Some (n, rest) → Takes (IsNumber size n) bytes rest
number_takes size goes bytes n rest fits e =
    let g = guarded (ltb (length bytes) size) (little_number size bytes, drop size bytes) (n, rest) e in
    let long : size ≤ length bytes = ltb-false _ _ g.0 in
    let front = take size bytes in
    let n-is : little_number size bytes ≡ n = ap (λ (p : ℕ × List ℕ). p.0) g.1 in
    let rest-is : drop size bytes ≡ rest = ap (λ (p : ℕ × List ℕ). p.1) g.1 in
    let of_front : little_number size (take size bytes) ≡ n = little_from-take 0 size size bytes (omega arith) ∙ n-is in
    let fits_front = IsBytes-take size bytes fits in
    let spelled : take size bytes ≡ little_bytes size n = sym (ap (little_bytes size) (sym of_front) ∙ goes.back (take size bytes) (omega (arith, length-take size bytes)) fits_front) in
    record {
      text = take size bytes;
      is = (subst (λ (k : ℕ). k < 256 ^ size) of_front (little_from-lt 0 size (take size bytes) fits_front), spelled);
      parts = sym (take-append-drop size bytes) ∙ ap (λ (r : List ℕ). take size bytes ++ r) rest-is;
      rest_fits = subst IsBytes rest-is (IsBytes-drop size bytes fits);
    }

pub bytes_takes : (count : ℕ) (bytes text rest : List ℕ) → IsBytes bytes → bytes_at count bytes ≡ Some (text, rest) → Takes (IsPlain count text) bytes rest
bytes_takes count bytes text rest fits e =
    let g = guarded (ltb (length bytes) count) (take count bytes, drop count bytes) (text, rest) e in
    let long : count ≤ length bytes = ltb-false _ _ g.0 in
    let text-is : take count bytes ≡ text = ap (λ (p : List ℕ × List ℕ). p.0) g.1 in
    let rest-is : drop count bytes ≡ rest = ap (λ (p : List ℕ × List ℕ). p.1) g.1 in
    record {
      text = text;
      is = (omega (arith, sym (ap length text-is), length-take count bytes), refl);
      parts = sym (take-append-drop count bytes) ∙ ap (λ (r : List ℕ). take count bytes ++ r) rest-is ∙ ap (λ (t : List ℕ). t ++ rest) text-is;
      rest_fits = subst IsBytes rest-is (IsBytes-drop count bytes fits);
    }

abbrev some : {A : Type 0} → A → Option A
some x = Some x

-- the value of a step that found one
pub then_some : {A B : Type 0} (o : Option (A × List ℕ)) (next : A → List ℕ → Option B) (y : B) → then_at o next ≡ Some y → (x : A × List ℕ) × (o ≡ Some x) × (next x.0 x.1 ≡ Some y)
then_some None next y e = absurd cc
then_some (Some x) next y e = (x, refl, e)

pub some_is : {A : Type 0} (x y : A) → some x ≡ some y → x ≡ y
some_is x y e = cc

pub made_some : {A B : Type 0} (f : A → B) (o : Option (A × List ℕ)) (y : B) (rest : List ℕ) → made f o ≡ Some (y, rest) → (x : A) × (o ≡ Some (x, rest)) × (f x ≡ y)
made_some f None y rest e = absurd cc
made_some {A} {B} f (Some found) y rest e =
    let made_is : (f found.0, found.1) ≡ (y, rest) = some_is (f found.0, found.1) (y, rest) e in
    let first : f found.0 ≡ y = ap (λ (p : B × List ℕ). p.0) made_is in
    let second : found.1 ≡ rest = ap (λ (p : B × List ℕ). p.1) made_is in
    (found.0, ap (λ (r : List ℕ). Some (found.0, r)) second, first)

pub counted_takes : (size : ℕ) → IsWidth size → (bytes text rest : List ℕ) → IsBytes bytes → counted_at size bytes ≡ Some (text, rest) → Takes (IsCounted size text) bytes rest
counted_takes size goes bytes text rest fits e =
    let a = then_some (number_at size bytes) bytes_at (text, rest) e in
    let t = number_takes size goes bytes a.0.0 a.0.1 fits a.1 in
    let u = bytes_takes a.0.0 a.0.1 text rest t.rest_fits a.2 in
    let len : a.0.0 ≡ length text = sym u.is.0 in
    record {
      text = counted size text;
      is = (subst (λ (k : ℕ). k < 256 ^ size) len t.is.0, refl);
      parts = t.parts ∙ ap (λ (x : List ℕ). x ++ a.0.1) (t.is.1 ∙ ap (little_bytes size) len) ∙ ap (λ (x : List ℕ). little_bytes size (length text) ++ x) (u.parts ∙ ap (λ (x : List ℕ). x ++ rest) u.is.1) ∙ sym (append_assoc (little_bytes size (length text)) text rest);
      rest_fits = u.rest_fits;
    }

-- Numbers by their digits, in base 32 and in base 256.
use Rattle.std.proofs.Common.{◌≡◌, ◌∙◌, refl, sym, ap, ℕ, zero, suc, ◌+◌, ◌*◌, ◌/◌, ◌%◌, ◌^◌, ◌<◌, ◌==◌, ◌&&◌, Bool, true, false, List, [], ◌∷◌, ◌++◌, arith, get_or, length, map, zero-add, length-append, nat_lt, lit<}
use Rattle.std.proofs.Math.Nat.{pow-suc, pow-zero}
use Rattle.std.proofs.lemmas.Bool.Decides.{nat_tests}
use Rattle.std.proofs.lemmas.Int.Digits.{number_push, number_lt}
use Rattle.std.proofs.lemmas.List.Elements.{All-get_or}
use Rattle.std.proofs.lemmas.List.FromFn.{length-range_with_len, get_or-range_with_len}
use Rattle.std.proofs.lemmas.List.Sums.{AllPass-from_list_all}
use Rattle.std.proofs.lemmas.Nat.{div-add-mod', same_from_place, mod_below, div_below, pow-add, shr_high, shr_below}
use Rattle.std.specs.Int.Digits.{number_from_digits, number_from_digits_after, AllBelowBase}
use Rattle.std.specs.List.{list_all, range_with_len}
use Rattle.ed2k_link.specs.Base32.{letter, letter_value, is_letter, is_base32, digits_at, base32, Spells}

-- a test that passes at each number below a count
pub table_at : (p : ℕ → Bool) (count : ℕ) → list_all p (range_with_len 0 count) ≡ true → (n : ℕ) → n < count → p n ≡ true
table_at p count table n low =
    let within : n < length (range_with_len 0 count) = rw (length-range_with_len 0 count) low in
    let here = All-get_or (λ x. p x ≡ true) (range_with_len 0 count) n 0 within
    (AllPass-from_list_all p (range_with_len 0 count) table) in
    let same : get_or (range_with_len 0 count) n 0 ≡ n = get_or-range_with_len 0 count n 0 low ∙ zero-add n in
    rw same at here

value_of_letter : list_all (λ n. letter_value (letter n) == n) (range_with_len 0 32) ≡ true
value_of_letter = refl

pub letter_value-letter : (n : ℕ) → n < 32 → letter_value (letter n) ≡ n
letter_value-letter n low =
    let h = table_at (λ m. letter_value (letter m) == m) 32 value_of_letter n low in
    grind (arith, nat_tests, h)

-- the digits of one number are the same
pub same_digits : (base m n : ℕ) (xs ys : List ℕ) → length xs ≡ length ys → AllBelowBase base xs → AllBelowBase base ys
    → number_from_digits_after base m xs ≡ number_from_digits_after base n ys → (m ≡ n) × (xs ≡ ys)
same_digits base m n [] [] long low high same = (same, refl)
same_digits base m n [] (y ∷ ys) long low high same = absurd (omega arith)
same_digits base m n (x ∷ xs) [] long low high same = absurd (omega arith)
same_digits base m n (x ∷ xs) (y ∷ ys) long low high same =
    let shorter : length xs ≡ length ys = omega (arith, long) in
    let rest = same_digits base (m * base + x) (n * base + y) xs ys shorter low.1 high.1 same in
    let first = same_from_place m x n y base low.0 high.0 rest.0 in
    (first.0, rw (first.1, rest.1) refl)

below_app : (base : ℕ) (xs : List ℕ) (d : ℕ) → AllBelowBase base xs → d < base → AllBelowBase base (xs ++ d ∷ [])
below_app base [] d low here = (here, tt)
below_app base (x ∷ xs) d low here = (low.0, below_app base xs d low.1 here)

pub digits_at_below : (base count n : ℕ) → 0 < base → AllBelowBase base (digits_at base count n)
digits_at_below base zero n some = tt
digits_at_below base (suc count) n some =
    below_app base (digits_at base count (n / base)) (n % base) (digits_at_below base count (n / base) some) (mod_below n base some)

pub length-digits_at : (base count n : ℕ) → length (digits_at base count n) ≡ count
length-digits_at base zero n = refl
length-digits_at base (suc count) n =
    length-append (digits_at base count (n / base)) (n % base ∷ []) ∙ (let e = length-digits_at base count (n / base) in omega (arith, e))

pub number-digits_at : (base count n : ℕ) → 0 < base → n < base ^ count → number_from_digits base (digits_at base count n) ≡ n
number-digits_at base zero n some low = let none : n < 1 = rw (pow-zero base) at low in omega arith
number-digits_at base (suc count) n some low =
    let fits : n < base ^ count * base = rw (← pow-suc base count) low in
    let fewer = number-digits_at base count (n / base) some (div_below n base (base ^ count) some fits) in
    number_push base (digits_at base count (n / base)) (n % base)
    ∙ ap (λ m. m * base + n % base) fewer ∙ div-add-mod' n base

-- an upper-case letter
abbrev pub is_upper : ℕ → Bool
is_upper c = letter (letter_value c) == c && nat_lt (letter_value c) 32

upper_table : list_all (λ n. is_upper (letter n)) (range_with_len 0 32) ≡ true
upper_table = refl

pub is_upper-letter : (n : ℕ) → n < 32 → is_upper (letter n) ≡ true
is_upper-letter n low = table_at (λ m. is_upper (letter m)) 32 upper_table n low

both : (a b : Bool) → (a && b) ≡ true → (a ≡ true) × (b ≡ true)
both true true h = (refl, refl)
both true false h = absurd (cc)
both false b h = absurd (cc)

pub letters_below : (text : List ℕ) → list_all is_letter text ≡ true → AllBelowBase 32 (map letter_value text)
letters_below [] h = tt
letters_below (c ∷ text) h =
    let parts = both (is_letter c) (list_all is_letter text) h in
    let low : letter_value c < 32 = grind (arith, nat_tests, parts.0) in
    (low, letters_below text parts.1)

pub upper_letters : (text : List ℕ) → list_all is_upper text ≡ true → (map letter (map letter_value text) ≡ text) × (list_all is_letter text ≡ true)
upper_letters [] h = (refl, refl)
upper_letters (c ∷ text) h =
    let parts = both (is_upper c) (list_all is_upper text) h in
    let here = both (letter (letter_value c) == c) (nat_lt (letter_value c) 32) parts.0 in
    let rest = upper_letters text parts.1 in
    let same : letter (letter_value c) ≡ c = grind (arith, nat_tests, here.0) in
    (rw (same, rest.0) refl, rw (here.1, rest.1) refl)

pub length_map : {X Y : Type 0} (f : X → Y) (xs : List X) → length (map f xs) ≡ length xs
length_map f [] = refl
length_map f (x ∷ xs) = ap suc (length_map f xs)

-- 32 upper-case letters with the number of the bytes are their base 32
pub base32_from_number : (text root : List ℕ) → length text ≡ 32 → list_all is_upper text ≡ true
    → number_from_digits 32 (map letter_value text) ≡ number_from_digits 256 root → text ≡ base32 root
unfolding base32
base32_from_number text root long upper same =
    let letters = upper_letters text upper in
    let below = letters_below text letters.1 in
    let count : length (map letter_value text) ≡ 32 = length_map letter_value text ∙ long in
    let small : number_from_digits 32 (map letter_value text) < 32 ^ 32 = rw count at (number_lt 32 (map letter_value text) below) in
    let fits : number_from_digits 256 root < 32 ^ 32 = rw same at small in
    let digits : map letter_value text ≡ digits_at 32 32 (number_from_digits 256 root) =
    (same_digits 32 0 0 (map letter_value text) (digits_at 32 32 (number_from_digits 256 root))
    (count ∙ sym (length-digits_at 32 32 (number_from_digits 256 root))) below
    (digits_at_below 32 32 (number_from_digits 256 root) (lit< tt))
    (same ∙ sym (number-digits_at 32 32 (number_from_digits 256 root) (lit< tt) fits))).1 in
    sym letters.0 ∙ ap (map letter) digits

bytes_below : (root : List ℕ) → ((i : ℕ) → get_or root i 0 < 256) → AllBelowBase 256 root
bytes_below [] h = tt
bytes_below (b ∷ root) h = (h 0, bytes_below root (λ i. h (suc i)))

pub spells_from_number : (text root : List ℕ) → length text ≡ 32 → list_all is_letter text ≡ true
    → ((i : ℕ) → get_or root i 0 < 256) → length root ≡ 20
    → number_from_digits 32 (map letter_value text) ≡ number_from_digits 256 root → Spells text root
spells_from_number text root long letters bytes short same = record {
  letters = rw (long, letters) refl;
  bytes = bytes_below root bytes;
  count = short;
  number = same;
}

pub letters_of_base32 : (text : List ℕ) → is_base32 text ≡ true → list_all is_letter text ≡ true
letters_of_base32 text h = (both (length text == 32) (list_all is_letter text) h).1

-- a text spells one list of bytes
pub spells_one : (text a b : List ℕ) → Spells text a → Spells text b → a ≡ b
spells_one text a b first second =
    (same_digits 256 0 0 a b (first.count ∙ sym second.count) first.bytes second.bytes (sym first.number ∙ second.number)).1

-- one byte more is read
pub read_byte : (n count value byte read : ℕ) → n * 2 ^ count + value ≡ read
    → n * 2 ^ (count + 8) + (value * 256 + byte) ≡ read * 256 + byte
read_byte n count value byte read h =
    let power : 2 ^ (count + 8) ≡ 2 ^ count * 256 = pow-add 2 count 8 in
    let product : n * (2 ^ count * 256) ≡ n * 2 ^ count * 256 = omega arith in
    rw (power, product) (omega (arith, h))

pub read_low : (count value byte : ℕ) → value < 2 ^ count → byte < 256 → value * 256 + byte < 2 ^ (count + 8)
read_low count value byte low here =
    let power : 2 ^ (count + 8) ≡ 2 ^ count * 256 = pow-add 2 count 8 in
    rw power (omega (arith, low, here))

-- five bits are written
pub write_letter : (n rest value high low read : ℕ) → n * 2 ^ (5 + rest) + value ≡ read → value ≡ high * 2 ^ rest + low
    → (n * 32 + high) * 2 ^ rest + low ≡ read
write_letter n rest value high low read h split =
    let power : 2 ^ (5 + rest) ≡ 32 * 2 ^ rest = pow-add 2 5 rest in
    let whole : n * (32 * 2 ^ rest) + value ≡ read = rw power at h in
    omega (arith, whole, split)

pub high_below : (bits rest value high low : ℕ) → value < 2 ^ (bits + rest) → value ≡ high * 2 ^ rest + low → low < 2 ^ rest → high < 2 ^ bits
high_below bits rest value high low small split here =
    let part : value / 2 ^ rest ≡ high = ap (λ v. v / 2 ^ rest) split ∙ shr_high high rest low here in
    let below : value / 2 ^ rest < 2 ^ bits = shr_below value bits rest small in
    omega (arith, part, below)

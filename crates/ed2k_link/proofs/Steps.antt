-- The steps of base 32, over plain numbers and lists.
use Rattle.std.proofs.Common.{◌≡◌, ◌∙◌, refl, sym, ap, subst, ℕ, zero, suc, ◌+◌, ◌-◌, ◌*◌, ◌^◌, ◌<◌, ◌≤◌, true, List, [], ◌∷◌, arith, get_or, set, length, map, take}
use Rattle.std.proofs.lemmas.Bool.Decides.{nat_tests}
use Rattle.std.proofs.lemmas.Int.Digits.{number_push}
use Rattle.std.proofs.lemmas.List.{take_more_set, take_all}
use Rattle.std.proofs.lemmas.List.Elements.{All-get_or}
use Rattle.std.proofs.lemmas.List.Folds.{list_all-append}
use Rattle.std.proofs.lemmas.List.Sums.{AllPass-from_list_all}
use Rattle.std.proofs.lemmas.Nat.{pow-add}
use Rattle.std.specs.Int.Digits.{number_from_digits}
use Rattle.std.specs.List.{list_all}
use Rattle.ed2k_link.proofs.Letters.{is_upper, is_upper-letter, letter_value-letter, high_below, write_letter}
use Rattle.ed2k_link.proofs.Lists.{map_app, map_more}
use Rattle.ed2k_link.specs.Base32.{letter, letter_value, is_letter}

pub letter_bound : (count value high low : ℕ) → 5 ≤ count → value < 2 ^ count → value ≡ high * 2 ^ (count - 5) + low
    → low < 2 ^ (count - 5) → high < 32
letter_bound count value high low enough small split here =
    let e : count ≡ 5 + (count - 5) = omega arith in
    let fits : value < 2 ^ (5 + (count - 5)) = subst (λ k. value < 2 ^ k) e small in
    high_below 5 (count - 5) value high low fits split here

pub byte_bound : (count pending number high low : ℕ) → 3 ≤ count → pending < 2 ^ count → number < 32
    → pending * 32 + number ≡ high * 2 ^ (count - 3) + low → low < 2 ^ (count - 3) → high < 256
byte_bound count pending number high low enough small letter split here =
    let e : count + 5 ≡ 8 + (count - 3) = omega arith in
    let power : 2 ^ (count + 5) ≡ 2 ^ count * 32 = pow-add 2 count 5 in
    let fits : pending * 32 + number < 2 ^ (count + 5) = rw power (omega (arith, small, letter)) in
    let wide : pending * 32 + number < 2 ^ (8 + (count - 3)) = subst (λ k. pending * 32 + number < 2 ^ k) e fits in
    high_below 8 (count - 3) (pending * 32 + number) high low wide split here

pub next_upper : (text : List ℕ) (i high : ℕ) → i < length text → high < 32 → list_all is_upper (take i text) ≡ true
    → list_all is_upper (take (i + 1) (set text i (letter high))) ≡ true
next_upper text i high within small upper =
    rw (take_more_set text i (letter high) within)
    (list_all-append is_upper (take i text) (letter high ∷ []) ∙ (rw (upper, is_upper-letter high small) refl))

pub next_letter : (text : List ℕ) (i count value high low read : ℕ) → i < length text → 5 ≤ count → high < 32
    → value ≡ high * 2 ^ (count - 5) + low
    → number_from_digits 32 (map letter_value (take i text)) * 2 ^ count + value ≡ read
    → number_from_digits 32 (map letter_value (take (i + 1) (set text i (letter high)))) * 2 ^ (count - 5) + low ≡ read
next_letter text i count value high low read within enough small split same =
    let n = number_from_digits 32 (map letter_value (take i text)) in
    let e : count ≡ 5 + (count - 5) = omega arith in
    let longer : number_from_digits 32 (map letter_value (take (i + 1) (set text i (letter high)))) ≡ n * 32 + high =
    ap (λ xs. number_from_digits 32 (map letter_value xs)) (take_more_set text i (letter high) within)
    ∙ ap (number_from_digits 32) (map_app letter_value (take i text) (letter high ∷ []))
    ∙ number_push 32 (map letter_value (take i text)) (letter_value (letter high))
    ∙ ap (λ d. n * 32 + d) (letter_value-letter high small) in
    let whole : n * 2 ^ (5 + (count - 5)) + value ≡ read = subst (λ k. n * 2 ^ k + value ≡ read) e same in
    rw longer (write_letter n (count - 5) value high low read whole split)

-- no bits are pending at the end
none_pending : (written read count pending : ℕ) → count ≡ 0 → pending < 2 ^ count → written * 2 ^ count + pending ≡ read → written ≡ read
none_pending written read count pending none small same =
    let power : 2 ^ count ≡ 1 = ap (λ k. 2 ^ k) none in
    let product : written * 2 ^ count ≡ written * 1 = ap (λ p. written * p) power in
    omega (arith, power, product, small, same)

pub encode_end : (text root : List ℕ) (i next count value : ℕ) → 32 ≤ i → i ≤ 32 → length text ≡ 32 → length root ≡ 20
    → 8 * next ≡ 5 * i + count → count < 8 → value < 2 ^ count
    → number_from_digits 32 (map letter_value (take i text)) * 2 ^ count + value ≡ number_from_digits 256 (take next root)
    → number_from_digits 32 (map letter_value text) ≡ number_from_digits 256 root
encode_end text root i next count value low high long short bits few small same =
    let none : count ≡ 0 = omega arith in
    let last : next ≡ 20 = omega arith in
    let all_text : take i text ≡ text = take_all i text (omega arith) in
    let all_root : take next root ≡ root = take_all next root (omega arith) in
    none_pending (number_from_digits 32 (map letter_value text)) (number_from_digits 256 root) count value none small (rw (all_text, all_root) at same)

pub letter_low : (text : List ℕ) (i : ℕ) → list_all is_letter text ≡ true → i < length text → letter_value (get_or text i 0) < 32
letter_low text i letters within =
    let here = All-get_or (λ c. is_letter c ≡ true) text i 0 within (AllPass-from_list_all is_letter text letters) in
    grind (arith, nat_tests, here)

pub number_longer : (text : List ℕ) (i : ℕ) → i < length text
    → number_from_digits 32 (map letter_value (take (i + 1) text)) ≡ number_from_digits 32 (map letter_value (take i text)) * 32 + letter_value (get_or text i 0)
number_longer text i within =
    ap (number_from_digits 32) (map_more letter_value text i 0 within)
    ∙ number_push 32 (map letter_value (take i text)) (letter_value (get_or text i 0))

-- a byte is written
pub next_byte : (root : List ℕ) (next count pending number high low read : ℕ) → next < length root → 3 ≤ count
    → pending * 32 + number ≡ high * 2 ^ (count - 3) + low
    → number_from_digits 256 (take next root) * 2 ^ count + pending ≡ read
    → number_from_digits 256 (take (next + 1) (set root next high)) * 2 ^ (count - 3) + low ≡ read * 32 + number
next_byte root next count pending number high low read within enough split same =
    let n = number_from_digits 256 (take next root) in
    let e : count ≡ 3 + (count - 3) = omega arith in
    let power : 2 ^ (3 + (count - 3)) ≡ 8 * 2 ^ (count - 3) = pow-add 2 3 (count - 3) in
    let longer : number_from_digits 256 (take (next + 1) (set root next high)) ≡ n * 256 + high =
    ap (number_from_digits 256) (take_more_set root next high within) ∙ number_push 256 (take next root) high in
    let whole : n * 2 ^ (3 + (count - 3)) + pending ≡ read = subst (λ k. n * 2 ^ k + pending ≡ read) e same in
    let parts : n * (8 * 2 ^ (count - 3)) + pending ≡ read = rw power at whole in
    rw longer (omega (arith, parts, split))

-- a letter is kept
pub kept_letter : (n count pending number read : ℕ) → n * 2 ^ count + pending ≡ read
    → n * 2 ^ (count + 5) + (pending * 32 + number) ≡ read * 32 + number
kept_letter n count pending number read same =
    let power : 2 ^ (count + 5) ≡ 2 ^ count * 32 = pow-add 2 count 5 in
    rw power (omega (arith, same))

pub kept_low : (count pending number : ℕ) → pending < 2 ^ count → number < 32 → pending * 32 + number < 2 ^ (count + 5)
kept_low count pending number small letter =
    let power : 2 ^ (count + 5) ≡ 2 ^ count * 32 = pow-add 2 count 5 in
    rw power (omega (arith, small, letter))

pub decode_end : (text root : List ℕ) (i next count pending : ℕ) → length text ≤ i → i ≤ length text → length text ≡ 32 → length root ≡ 20
    → 8 * next + count ≡ 5 * i → count < 8 → pending < 2 ^ count
    → number_from_digits 256 (take next root) * 2 ^ count + pending ≡ number_from_digits 32 (map letter_value (take i text))
    → number_from_digits 32 (map letter_value text) ≡ number_from_digits 256 root
decode_end text root i next count pending low high long short bits few small same =
    let none : count ≡ 0 = omega arith in
    let last : next ≡ 20 = omega arith in
    let all_text : take i text ≡ text = take_all i text (omega arith) in
    let all_root : take next root ≡ root = take_all next root (omega arith) in
    sym (none_pending (number_from_digits 256 root) (number_from_digits 32 (map letter_value text)) count pending none small (rw (all_text, all_root) at same))

pub bytes_set : (root : List ℕ) (n byte : ℕ) → ((k : ℕ) → get_or root k 0 < 256) → byte < 256 → (k : ℕ) → get_or (set root n byte) k 0 < 256
bytes_set [] zero byte h small k = h k
bytes_set [] (suc n) byte h small k = h k
bytes_set (x ∷ root) zero byte h small zero = small
bytes_set (x ∷ root) zero byte h small (suc k) = h (suc k)
bytes_set (x ∷ root) (suc n) byte h small zero = h 0
bytes_set (x ∷ root) (suc n) byte h small (suc k) = bytes_set root n byte (λ j. h (suc j)) small k

-- The set of escaped characters is that of the reserved ones.
use Rattle.std.proofs.Common.{◌≡◌, ◌∙◌, refl, sym, ℕ, ◌<◌, ◌≤◌, Bool, true, false, cond, not, ◌||◌, List, [], ◌∷◌, arith, get_or, nat_lt, length, zero-add}
use Rattle.std.proofs.lemmas.Bool.Decides.{nat_tests}
use Rattle.std.proofs.lemmas.List.Elements.{All-get_or}
use Rattle.std.proofs.lemmas.List.FromFn.{length-range_with_len, get_or-range_with_len}
use Rattle.std.proofs.lemmas.List.Sums.{AllPass-from_list_all}
use Rattle.std.specs.Char.{is_ascii}
use Rattle.std.specs.List.{flat_map, list_all, range_with_len}
use Rattle.percent_encoding.specs.AsciiSet.{should_percent_encode, contains}
use Rattle.percent_encoding.specs.Percent.{percent_encode, percent_encode_byte, encode_byte}
use Rattle.ed2k_link.specs.Name.{escaped, is_unreserved}
use Rattle.ed2k_link.specs.declared.name.TheConstants.{ESCAPES}

-- the two differ
abbrev pub differ : Bool → Bool → Bool
differ true b = not b
differ false b = b

not_from_differ : (a b : Bool) → differ a b ≡ true → a ≡ not b
not_from_differ true true h = sym h
not_from_differ true false h = refl
not_from_differ false true h = refl
not_from_differ false false h = h

table : list_all (λ b. differ (contains ESCAPES b) (is_unreserved b)) (range_with_len 0 128) ≡ true
table = refl

contains_low : (b : ℕ) → b < 128 → contains ESCAPES b ≡ not (is_unreserved b)
contains_low b low =
    let within : b < length (range_with_len 0 128) = rw (length-range_with_len 0 128) low in
    let here = All-get_or (λ x. differ (contains ESCAPES x) (is_unreserved x) ≡ true) (range_with_len 0 128) b 0 within
    (AllPass-from_list_all (λ x. differ (contains ESCAPES x) (is_unreserved x)) (range_with_len 0 128) table) in
    let same : get_or (range_with_len 0 128) b 0 ≡ b = get_or-range_with_len 0 128 b 0 low ∙ zero-add b in
    not_from_differ _ _ (rw same at here)

ascii_low : (b : ℕ) → b < 128 → is_ascii b ≡ true
ascii_low b low = grind (arith, nat_tests)

ascii_high : (b : ℕ) → 128 ≤ b → is_ascii b ≡ false
ascii_high b high = grind (arith, nat_tests)

reserved_high : (b : ℕ) → 128 ≤ b → is_unreserved b ≡ false
reserved_high b high = grind (arith, nat_tests)

pub should_is : (b : ℕ) → should_percent_encode ESCAPES b ≡ not (is_unreserved b)
unfolding should_percent_encode
should_is b = elim (nat_lt b 128) as (λ t. nat_lt b 128 ≡ t → (not (is_ascii b) || contains ESCAPES b) ≡ not (is_unreserved b)) [
  | true ↦ λ h. let low : b < 128 = grind (arith, nat_tests, h) in rw (ascii_low b low) (contains_low b low)
  | false ↦ λ h. let high : 128 ≤ b = grind (arith, nat_tests, h) in rw (ascii_high b high, reserved_high b high) refl
] refl

cond_not : (t : Bool) (xs ys : List ℕ) → cond (not t) xs ys ≡ cond t ys xs
cond_not true xs ys = refl
cond_not false xs ys = refl

byte_is : (b : ℕ) → encode_byte ESCAPES b ≡ cond (is_unreserved b) (b ∷ []) (percent_encode_byte b)
byte_is b = rw (should_is b) (cond_not (is_unreserved b) (percent_encode_byte b) (b ∷ []))

same_flat_map : (f g : ℕ → List ℕ) → ((b : ℕ) → f b ≡ g b) → (xs : List ℕ) → flat_map f xs ≡ flat_map g xs
same_flat_map f g same [] = refl
same_flat_map f g same (x ∷ xs) = rw (same x, same_flat_map f g same xs) refl

pub encode_is_escaped : (name : List ℕ) → percent_encode ESCAPES name ≡ escaped name
unfolding percent_encode escaped
encode_is_escaped name = same_flat_map (encode_byte ESCAPES) (λ b. cond (is_unreserved b) (b ∷ []) (percent_encode_byte b)) byte_is name

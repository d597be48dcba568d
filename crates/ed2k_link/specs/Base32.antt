-- Base 32 of the 20 bytes of a root hash, without padding (RFC 4648, section 6).
use Rattle.std.specs.Prelude.{◌≡◌, ℕ, zero, suc, ◌-◌, ◌/◌, ◌%◌, ◌==◌, ◌&&◌, nat_le, nat_lt, Bool, List, [], ◌∷◌, ◌++◌, map, length, codes, slice_index, if◌then◌else◌, IsTrue}
use Rattle.std.specs.Int.Digits.{number_from_digits, AllBelowBase}
use Rattle.std.specs.List.{list_all}

-- the letter of a number below 32
abbrev pub alphabet : List ℕ
alphabet = codes "ABCDEFGHIJKLMNOPQRSTUVWXYZ234567"

abbrev pub letter : ℕ → ℕ
letter n = slice_index alphabet n

-- the number of a letter of either case, and 32 of any other byte
abbrev pub letter_value : ℕ → ℕ
letter_value c =
    if nat_le 65 c && nat_le c 90 then c - 65
    else if nat_le 97 c && nat_le c 122 then c - 97
    else if nat_le 50 c && nat_le c 55 then c - 24
    else 32

abbrev pub is_letter : ℕ → Bool
is_letter c = nat_lt (letter_value c) 32

-- 32 letters
abbrev pub is_base32 : List ℕ → Bool
is_base32 text = length text == 32 && list_all is_letter text

-- the 20 bytes that 32 letters spell: one number, in base 256 and in base 32
pub record Spells (text : List ℕ) (root : List ℕ) : Type 0 where
  pub letters : IsTrue (is_base32 text)
  pub bytes : AllBelowBase 256 root
  pub count : length root ≡ 20
  pub number : number_from_digits 32 (map letter_value text) ≡ number_from_digits 256 root

-- that many digits of a number in a base, the highest first
abbrev pub digits_at : ℕ → ℕ → ℕ → List ℕ
digits_at base zero n = []
digits_at base (suc count) n = digits_at base count (n / base) ++ n % base ∷ []

-- the bytes in upper-case letters
unfoldable pub base32 : List ℕ → List ℕ
base32 root = map letter (digits_at 32 32 (number_from_digits 256 root))

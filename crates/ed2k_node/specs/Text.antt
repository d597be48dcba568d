-- Readings of text: pieces at a separator, and decimal numbers.
use Rattle.std.specs.Prelude.{ℕ, ◌+◌, ◌^◌, ◌==◌, ◌&&◌, nat_lt, nat_le, if◌then◌else◌, List, take, drop, Option, Some, None, position}
use Rattle.std.specs.Option.{option_map}
use Rattle.std.specs.Str.Parse.{digits_value}
use Rattle.ed2k_link.specs.Decimal.{is_numeral}

-- what stands before the first such byte, and what stands after it
abbrev pub cut : ℕ → List ℕ → Option (List ℕ × List ℕ)
cut separator text = option_map (λ at. (take at text, drop (at + 1) text)) (position (λ byte. byte == separator) text)

-- the number that 1 to 20 decimal digits write, where it fits 64 bits
abbrev pub number_of : List ℕ → Option ℕ
number_of text =
    if is_numeral text && nat_lt (digits_value 10 text) (2 ^ 64) then Some (digits_value 10 text) else None

-- the same, where it lies between two bounds
abbrev pub number_between : ℕ → ℕ → List ℕ → Option ℕ
number_between least most text = within (number_of text)
  where
    within : Option ℕ → Option ℕ
    within None = None
    within (Some n) = if nat_le least n && nat_le n most then Some n else None

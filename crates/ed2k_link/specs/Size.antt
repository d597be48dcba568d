-- The size of a file in a link.
use Rattle.std.specs.Prelude.{ℕ, ◌&&◌, nat_le, Bool, List, Option, Some, None, if◌then◌else◌}
use Rattle.std.specs.Str.Parse.{digits_value}
use Rattle.part_sizes.specs.declared.part.TheConstants.{SIZE_LIMIT}
use Rattle.ed2k_link.specs.Decimal.{is_numeral}

-- the number lies within the sizes of files
abbrev pub is_size : ℕ → Bool
is_size n = nat_le 1 n && nat_le n SIZE_LIMIT

-- the size that the text writes
abbrev pub size_of : List ℕ → Option ℕ
size_of text =
    if is_numeral text && is_size (digits_value 10 text) then Some (digits_value 10 text) else None

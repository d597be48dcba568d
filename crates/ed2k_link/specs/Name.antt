-- The name of a file in a link.
use Rattle.std.specs.Prelude.{ℕ, ◌&&◌, ◌||◌, ◌==◌, nat_le, Bool, List, [], ◌∷◌, length, if◌then◌else◌}
use Rattle.std.specs.Char.{is_ascii_alphanumeric}
use Rattle.std.specs.List.{flat_map}
use Rattle.std.specs.Str.{is_utf8}
use Rattle.percent_encoding.specs.Percent.{percent_encode_byte}
use Rattle.ed2k_link.specs.declared.name.TheConstants.{NAME_LIMIT}

-- UTF-8 of 1 byte up to the limit
abbrev pub is_name : List ℕ → Bool
is_name name = nat_le 1 (length name) && nat_le (length name) NAME_LIMIT && is_utf8 name

-- a letter, a digit, `-`, `.`, `_` or `~`
abbrev pub is_unreserved : ℕ → Bool
is_unreserved c = is_ascii_alphanumeric c || c == 45 || c == 46 || c == 95 || c == 126

-- the name with each other byte as `%` and two upper-case hexadecimal digits
unfoldable pub escaped : List ℕ → List ℕ
escaped name = flat_map (λ b. if is_unreserved b then b ∷ [] else percent_encode_byte b) name

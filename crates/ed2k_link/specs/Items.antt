-- What stands between the bars of a link, and the fields among it.
use Rattle.std.specs.Prelude.{ℕ, ◌==◌, Bool, List, map, codes}
use Rattle.std.specs.Borrow.{Bor}
use Rattle.std.specs.List.{slice_split, filter_map}
use Rattle.std.specs.Str.{bytes_eq}
use Rattle.ed2k_link.specs.Prefix.{after_prefix}

-- the items between the bars, one more than there are bars
abbrev pub split_at_bars : List ℕ → List (List ℕ)
split_at_bars text = slice_split (λ byte. byte == 124) text

-- the pieces between the colons
abbrev pub split_at_colons : List ℕ → List (List ℕ)
split_at_colons text = slice_split (λ byte. byte == 58) text

-- the item is a lone `/`
abbrev pub is_end : List ℕ → Bool
is_end item = bytes_eq item (codes "/")

-- what stands behind a key in the fields that begin with it
abbrev pub values : List ℕ → List (List ℕ) → List (List ℕ)
values key fields = filter_map (after_prefix key) fields

-- the texts that a list of slices points to
abbrev pub texts : List (Bor (List ℕ)) → List (List ℕ)
texts items = map (λ item. item.now) items

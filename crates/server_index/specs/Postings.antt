-- The postings of a file: one for each word of its name.
use Rattle.std.specs.Prelude.{◌&&◌, ℕ, Bool, false, nat_eq, Option, Some, None, List}
use Rattle.std.specs.List.{list_all, list_any}
use Rattle.std.specs.BTreeMap.{is_at}
use Rattle.std.specs.BTreeSet.{BTreeSet, contains}
use Rattle.server_index.specs.Live.{File}
use Rattle.server_index.specs.Order.{spot_cmp, posting_cmp}
use Rattle.server_index.specs.Words.{keys}

-- whether the postings have the spot under each word of the name
abbrev pub lists : BTreeSet (ℕ × (List ℕ × ℕ)) → List ℕ → List ℕ × ℕ → Bool
lists postings name spot = list_all (λ key. contains posting_cmp postings (key, spot)) (keys name)

-- whether a text has a word of this key
abbrev pub has_word : List ℕ → ℕ → Bool
has_word text key = list_any (nat_eq key) (keys text)

-- whether there is a file, and a word of this key in its name
abbrev pub names : Option File → ℕ → Bool
names None key = false
names (Some f) key = has_word f.name key

-- whether a posting is of this spot, and of a word of this text
abbrev pub is_of : List ℕ × ℕ → List ℕ → ℕ × (List ℕ × ℕ) → Bool
is_of spot text q = is_at (spot_cmp spot) q.1 && has_word text q.0

-- whether a posting is of a spot and of the file that stood there
abbrev pub is_left_by : (List ℕ × ℕ) × Option File → ℕ × (List ℕ × ℕ) → Bool
is_left_by e q = is_at (spot_cmp e.0) q.1 && names e.1 q.0

-- whether a posting is of one of these files, each with the spot where it stood
abbrev pub leaves : List ((List ℕ × ℕ) × Option File) → ℕ × (List ℕ × ℕ) → Bool
leaves gone q = list_any (λ e. is_left_by e q) gone

-- Bytes counted per user: a list of users and sums, in the order of the users.
use Rattle.std.specs.Prelude.{ℕ, ◌+◌, ◌-◌, ◌^◌, List, min, unwrap_or}
use Rattle.std.specs.BTreeMap.{insert_entry, is_at}
use Rattle.std.specs.Cmp.Lexicographic.{slice_cmp}
use Rattle.std.specs.Map.{lookup}
use Rattle.std.specs.Ordering.{nat_cmp}

abbrev pub Sums : Type 0
Sums = List (List ℕ × ℕ)

-- the sum of a user, 0 where nothing was counted
abbrev pub bytes_of : Sums → List ℕ → ℕ
bytes_of sums user = unwrap_or (lookup (is_at (slice_cmp nat_cmp user)) sums) 0

-- the sums with more bytes of a user; a sum stops at the greatest u64
abbrev pub count : Sums → List ℕ → ℕ → Sums
count sums user bytes = insert_entry (slice_cmp nat_cmp) sums user (min (bytes_of sums user + bytes) (2 ^ 64 - 1))

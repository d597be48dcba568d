-- What a search finds, as a filter over the list of live files.
use Rattle.std.specs.Prelude.{ℕ, ◌-◌, Bool, true, false, ◌&&◌, nat_eq, if◌then◌else◌, Option, Some, None, List, [], ◌∷◌, ◌++◌, length, map, take, filter}
use Rattle.std.specs.List.{list_any}
use Rattle.std.specs.Ordering.{is_lt}
use Rattle.std.specs.Cmp.Lexicographic.{pointwise}
use Rattle.search_expr.specs.declared.expr.FileRow.{FileRow}
use Rattle.server_index.specs.Live.{File}
use Rattle.server_index.specs.declared.file.Found.{Found}
use Rattle.server_index.specs.Order.{hash_cmp}

-- the hash is above the one that the last answer ended at, if there is one
abbrev pub is_above : Option (List ℕ) → List ℕ → Bool
is_above None hash = true
is_above (Some after) hash = is_lt (hash_cmp after hash)

abbrev pub is_hash : Option (List ℕ) → List ℕ → Bool
is_hash None hash = false
is_hash (Some last) hash = pointwise nat_eq last hash

-- whether a live file is asked for
abbrev pub is_hit : (File → Bool) → Option (List ℕ) → (List ℕ × ℕ) × File → Bool
is_hit meets after x = is_above after x.0.0 && meets x.1

-- of files of one hash that follow each other, the first; none of the hash `last`
abbrev pub firsts : Option (List ℕ) → List ((List ℕ × ℕ) × File) → List ((List ℕ × ℕ) × File)
firsts last [] = []
firsts last (x ∷ xs) = if is_hash last x.0.0 then firsts last xs else x ∷ firsts (Some x.0.0) xs

-- what a session tells of a live file
abbrev pub row_of : List ℕ → File → FileRow
row_of hash f = record { hash = hash; name = f.name; size = f.size; kind = f.kind; short_name = f.short_name; short_kind = f.short_kind }

-- a live file as an answer tells it
abbrev pub found_of : (List ℕ × ℕ) × File → Found
found_of x = record { row = row_of x.0.0 x.1; id = x.1.id; port = x.1.port }

-- of the live files, by hash and then by number: those asked for, the first of each hash, at most 200
abbrev pub found : (File → Bool) → Option (List ℕ) → List ((List ℕ × ℕ) × File) → List Found
found meets after files = map found_of (take 200 (firsts None (filter (is_hit meets after) files)))

-- what was found, and what is still found among the files that are left
abbrev pub goes_on : List Found → Option (List ℕ) → List ((List ℕ × ℕ) × File) → List Found
goes_on out last hits = out ++ map found_of (take (200 - length out) (firsts last hits))

-- where a hash can be had: the id and port of each session that has it, by number, at most 255
abbrev pub place_of : (List ℕ × ℕ) × File → ℕ × ℕ
place_of x = (x.1.id, x.1.port)

abbrev pub has_hash : List ℕ → (List ℕ × ℕ) × File → Bool
has_hash hash x = pointwise nat_eq x.0.0 hash

abbrev pub sources : List ℕ → List ((List ℕ × ℕ) × File) → List (ℕ × ℕ)
sources hash files = map place_of (take 255 (filter (has_hash hash) files))

-- the hashes of the live files, each once
abbrev pub hashes : List ((List ℕ × ℕ) × File) → List (List ℕ)
hashes [] = []
hashes (x ∷ xs) = if list_any (has_hash x.0.0) xs then hashes xs else x.0.0 ∷ hashes xs

-- 1 where no live file has the hash, else 0
abbrev pub absent : List ℕ → List ((List ℕ × ℕ) × File) → ℕ
absent hash files = if list_any (has_hash hash) files then 0 else 1

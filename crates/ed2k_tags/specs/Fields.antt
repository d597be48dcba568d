-- Fields at the front of the bytes that are left: a field's value and the bytes after it, or nothing where
-- the bytes end within the field.
use Rattle.std.specs.Prelude.{◌≡◌, ℕ, List, length, take, drop, ◌++◌, Option, Some, None, Result, Ok, Err, nat_lt, if◌then◌else◌}
use Rattle.byteorder.specs.Endian.{little_number, little_bytes}

-- a number of so many bytes, the lowest first
abbrev pub number_at : ℕ → List ℕ → Option (ℕ × List ℕ)
number_at size bytes = if nat_lt (length bytes) size then None else Some (little_number size bytes, drop size bytes)

-- so many bytes
abbrev pub bytes_at : ℕ → List ℕ → Option (List ℕ × List ℕ)
bytes_at count bytes = if nat_lt (length bytes) count then None else Some (take count bytes, drop count bytes)

-- Goes on behind what was found.
abbrev pub then_at : {A B : Type 0} → Option (A × List ℕ) → (A → List ℕ → Option B) → Option B
then_at None next = None
then_at (Some found) next = next found.0 found.1

-- a length of so many bytes, and as many bytes
abbrev pub counted_at : ℕ → List ℕ → Option (List ℕ × List ℕ)
counted_at size bytes = then_at (number_at size bytes) bytes_at

-- how such a length and its bytes are written
abbrev pub counted : ℕ → List ℕ → List ℕ
counted size bytes = little_bytes size (length bytes) ++ bytes

-- the same field, as a value of another type
abbrev pub made : {A B : Type 0} → (A → B) → Option (A × List ℕ) → Option (B × List ℕ)
made f None = None
made f (Some found) = Some (f found.0, found.1)

-- nothing is this refusal
abbrev pub or : {A E : Type 0} → E → Option A → Result A E
or refusal None = Err refusal
or refusal (Some found) = Ok found

-- What a reader answered, seen by view, is the field, and it refuses where there is none.
abbrev pub Finds : {X Y E : Type 0} → (X → Y) → Result X E → Option Y → Type 0
Finds view (Ok x) field = field ≡ Some (view x)
Finds view (Err _) field = field ≡ None

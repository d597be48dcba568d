-- What is sent where bytes are to be sent whole.
use Rattle.std.specs.Prelude.{◌≡◌, ℕ, List, ◌++◌, Option, Result, Ok, Err}
use Rattle.std.specs.Io.KnownBytes.{append_known}

-- the bytes begin with these
abbrev pub IsFront : List ℕ → List ℕ → Type 0
IsFront part bytes = (rest : List ℕ) × (bytes ≡ part ++ rest)

-- all bytes were sent, or a front of them
abbrev pub SendsFront : {T E : Type 0} → Result T E → List ℕ → Option (List ℕ) → Option (List ℕ) → Type 0
SendsFront (Ok done) bytes old new = new ≡ append_known old bytes
SendsFront (Err failed) bytes old new =
    (part : List ℕ) × IsFront part bytes × (new ≡ append_known old part)

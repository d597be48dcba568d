-- What a sink was sent.
use Rattle.std.specs.Prelude.{◌≡◌, ℕ, List, take, MatchResult}
use Rattle.std.specs.declared.option.Option.{Option}
use Rattle.std.specs.declared.result.Result.{Result}
use Rattle.std.specs.Io.KnownBytes.{append_known}

-- these bytes, whole
abbrev pub IsSent : Option (List ℕ) → Option (List ℕ) → List ℕ → Type 0
IsSent old new bytes = new ≡ append_known old bytes

-- so many of them, from their front
abbrev pub IsBegun : Option (List ℕ) → Option (List ℕ) → List ℕ → Type 0
IsBegun old new bytes = (n : ℕ) × (new ≡ append_known old (take n bytes))

-- an Ok sent them whole, and an Err some of them
abbrev pub HasSent : {T E : Type 0} → Result T E → Option (List ℕ) → Option (List ℕ) → List ℕ → Type 0
HasSent result old new bytes = MatchResult result (λ _. IsSent old new bytes) (λ _. IsBegun old new bytes)

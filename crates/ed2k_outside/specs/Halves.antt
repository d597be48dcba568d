-- What a read takes from the bytes left and a write adds to the bytes sent.
use Rattle.std.specs.Prelude.{◌≡◌, ℕ, List, take, MatchResult}
use Rattle.std.specs.declared.option.Option.{Option}
use Rattle.std.specs.declared.result.Result.{Result}
use Rattle.std.specs.Io.KnownBytes.{prepend_known, append_known}

-- what lies beside one half of a wire: the bytes and the count of its other half, the ports and their count
pub record Beside : Type 0 where
  pub bytes : Option (List ℕ)
  pub ports : Option (List ℕ)
  pub half_faults : ℕ
  pub port_faults : ℕ

-- a read of n bytes takes them from the front of the bytes left, and one that failed takes nothing
abbrev pub Takes : {E : Type 0} → Option (List ℕ) → Option (List ℕ) → Result ℕ E → List ℕ → Type 0
Takes old new result buf = MatchResult result (λ n. old ≡ prepend_known (take n buf) new) (λ _. new ≡ old)

-- a write of n bytes appends them to the bytes sent, and one that failed sends nothing
abbrev pub Sends : {E : Type 0} → Option (List ℕ) → Option (List ℕ) → Result ℕ E → List ℕ → Type 0
Sends old new result piece = MatchResult result (λ n. new ≡ append_known old (take n piece)) (λ _. new ≡ old)

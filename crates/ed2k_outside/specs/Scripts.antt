-- The calls of an object in memory: which of them fail, and how many were made.
use Rattle.std.specs.Prelude.{◌≡◌, ℕ, ◌+◌, ◌-◌, ◌^◌, ◌<◌, ◌≤◌, min, List, length, Contains, IfOk, IsErr, MatchResult}
use Rattle.std.specs.declared.result.Result.{Result}
use Rattle.ed2k_outside.specs.declared.script.Script.{Script}

-- the number of the next call; a number at its type's end stands still
abbrev pub next_call : Script → ℕ
next_call script = min (script.made + 1) (2 ^ 64 - 1)

-- a count of faults with one more; one that stands at its type's end stands still
abbrev pub next_fault : ℕ → ℕ
next_fault count = min (count + 1) (2 ^ 64 - 1)

-- a call that failed is one fault, and one that was made is none
abbrev pub CountsFault : {T E : Type 0} → ℕ → ℕ → Result T E → Type 0
CountsFault before now result = MatchResult result (λ _. now ≡ before) (λ _. now ≡ next_fault before)

-- a read is at most one fault, and none where it gave a byte or had no room for one
pub record CountsBlobRead {E : Type 0} (before now : ℕ) (result : Result ℕ E) (buf : List ℕ) : Type 0 where
  pub once : now ≤ before + 1
  pub given : IfOk result (λ n. 0 < n → now ≡ before)
  pub no_room : IfOk result (λ _. length buf ≡ 0 → now ≡ before)

-- the numbers of the calls that fail
abbrev pub failing_calls : Script → List ℕ
failing_calls script = script.fails.items

-- the next call is to fail
abbrev pub IsNextFailing : Script → Type 0
IsNextFailing script = Contains (failing_calls script) (next_call script)

-- no call was made, and these are to fail
pub record IsUnused (script : Script) (numbers : List ℕ) : Type 0 where
  pub made : script.made ≡ 0
  pub fails : failing_calls script ≡ numbers

-- a call counts, and fails where its number is listed
pub record IsCalled {T E : Type 0} (old new : Script) (result : Result T E) : Type 0 where
  pub listed : IsNextFailing old → IsErr result
  pub fails : failing_calls new ≡ failing_calls old
  pub made : new.made ≡ next_call old

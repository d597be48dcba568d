-- Counts of faults and of calls, and meanings that an object may leave untold.
use Rattle.std.specs.Prelude.{◌≡◌, ℕ, ◌+◌, ◌-◌, ◌^◌, ◌<◌, ◌≤◌, min, List, length, None, Some, IfOk, OnOk, OnErr, MatchResult}
use Rattle.std.specs.declared.option.Option.{Option}
use Rattle.std.specs.declared.result.Result.{Result}

-- a count rose; one that stands at its type's end counts as risen
abbrev pub Rose : ℕ → ℕ → Type 0
Rose before now = min (before + 1) (2 ^ 64 - 1) ≤ now

-- the count didn't fall, and a call that failed made it rise
pub record HasCause {T E : Type 0} (before now : ℕ) (result : Result T E) : Type 0 where
  pub later : before ≤ now
  pub failed : OnErr result (Rose before now)

-- a transfer of nothing, where there was a byte to transfer, made the count rise
abbrev pub NoneIsFault : {E : Type 0} → ℕ → ℕ → Result ℕ E → List ℕ → Type 0
NoneIsFault before now result bytes = IfOk result (λ n. n ≡ 0 → 0 < length bytes → Rose before now)

-- a call that was made counts once, one that failed at most once, and the count rises only where it fits its type
pub record CountsCall {T E : Type 0} (before now : ℕ) (result : Result T E) : Type 0 where
  pub later : before ≤ now
  pub at_most_once : now ≤ before + 1
  pub made : OnOk result (now ≡ before + 1)
  pub fits : before < now → now < 2 ^ 64

-- a meaning goes by a step where it is told, and stays untold where it isn't
abbrev pub IfKnown : {M : Type 0} → (M → M → Type 0) → Option M → Option M → Type 0
IfKnown step None new = new ≡ None
IfKnown step (Some old) None = ⊥
IfKnown step (Some old) (Some new) = step old new

-- a call that answers Ok makes the step of what it answers, where the meaning is told; one that fails leaves it
abbrev pub ChangesOnOk : {M T E : Type 0} → (T → M → M → Type 0) → Result T E → Option M → Option M → Type 0
ChangesOnOk step result old new = MatchResult result (λ made. IfKnown (step made) old new) (λ _. new ≡ old)

-- What calls make of the state that is kept of part i.
use Rattle.std.specs.Prelude.{ℕ, ◌+◌, ◌==◌, Bool, true, false, List, Some, None, if◌then◌else◌, min}
use Rattle.reserve_core.specs.declared.part_state.PartState.{PartState}

-- all is committed
abbrev pub after_commit : PartState → PartState
after_commit s = record { verdict = s.verdict; uncommitted = false; failures = s.failures }

-- a part was written into
abbrev pub after_write : ℕ → ℕ → PartState → PartState
after_write part i s =
    record { verdict = s.verdict; uncommitted = if i == part then true else s.uncommitted; failures = s.failures }

-- one more failure, or none; eight are as many as are counted
abbrev pub counted : Bool → ℕ → ℕ
counted failed failures = if failed then min 8 (failures + 1) else failures

-- a part was judged
abbrev pub after_verdict : ℕ → List ℕ → Bool → ℕ → PartState → PartState
after_verdict part digest failed i s = record {
  verdict = if i == part then Some digest else s.verdict;
  uncommitted = s.uncommitted;
  failures = if i == part then counted failed s.failures else s.failures;
}

-- a part has no verdict any more
abbrev pub after_drop : ℕ → ℕ → PartState → PartState
after_drop part i s =
    record { verdict = if i == part then None else s.verdict; uncommitted = s.uncommitted; failures = s.failures }

-- A log is its header, its records, and what stands behind them.
use Rattle.std.proofs.Common.{◌≡◌, ℕ, ◌+◌, ◌≤◌, List, ◌++◌, length, take, drop, Option, Some, None, IfSome, refl, sym, ap, ◌∙◌, subst, inr, arith, append_assoc, length-append, length-take-le, take-append-drop}
use Rattle.ed2k_outside.specs.Files.{Files}
use Rattle.journal_core.specs.Faults.{BreaksAt, IsBadTail, IsKept}
use Rattle.journal_core.specs.Gates.{IsClosed}
use Rattle.journal_core.specs.Headers.{IsHead}
use Rattle.journal_core.specs.Loads.{IsLoaded}
use Rattle.journal_core.specs.States.{state_of}
use Rattle.journal_core.specs.Walks.{Walked}
use Rattle.journal_core.specs.declared.header.Header.{Header}
use Rattle.journal_core.specs.declared.record.Record.{Record}

thirds : (log : List ℕ) (at : ℕ) → log ≡ (take 54 log ++ take at (drop 54 log)) ++ drop at (drop 54 log)
thirds log at =
    sym (take-append-drop 54 log)
    ∙ ap (λ (l : List ℕ). take 54 log ++ l) (sym (take-append-drop at (drop 54 log)))
    ∙ sym (append_assoc (take 54 log) (take at (drop 54 log)) (drop at (drop 54 log)))

place : (log : List ℕ) (at : ℕ) → 55 ≤ length log → at ≤ length (drop 54 log) → 54 + at ≡ length (take 54 log ++ take at (drop 54 log))
place log at long within =
    omega (arith, length-append (take 54 log) (take at (drop 54 log)), length-take-le 54 log (omega (arith, long)), length-take-le at (drop 54 log) within)

pub is-loaded : (log : List ℕ) (h : Header) (rs : List Record) (at : ℕ) → IsHead h (take 54 log) → 55 ≤ length log → Walked h (drop 54 log) rs at → IsClosed (drop at (drop 54 log)) → IsLoaded h rs (54 + at) log
is-loaded log h rs at head long w closed = (
  record {
    records = rs;
    gate = 54 + at;
    holds = record {
      head = take 54 log;
      front = take at (drop 54 log);
      tail = drop at (drop 54 log);
      is_head = head;
      spelled = w.spelled;
      closed = closed;
      at = place log at long w.within;
      whole = thirds log at;
    };
    legal = w.legal;
    state = refl;
  },
  refl,
  refl,
)

pub stops-at : (log : List ℕ) (h : Header) (rs : List Record) (at : ℕ) → IsHead h (take 54 log) → 55 ≤ length log → Walked h (drop 54 log) rs at → IsBadTail h (state_of h.size rs) (drop at (drop 54 log)) → BreaksAt log (54 + at)
stops-at log h rs at head long w bad = inr (inr (record {
  header = h;
  records = rs;
  head = take 54 log;
  front = take at (drop 54 log);
  tail = drop at (drop 54 log);
  is_head = head;
  spelled = w.spelled;
  legal = w.legal;
  bad = bad;
  at_end = place log at long w.within;
  whole = thirds log at;
  long = long;
}))

-- by the log that is told
pub told-loaded : (files : Option Files) (bytes : List ℕ) (h : Header) (rs : List Record) (gate : ℕ) → IfSome files (λ f. bytes ≡ f.log) → IfSome files (λ f. IsKept f.log) → (IsKept bytes → IsLoaded h rs gate bytes) → IfSome files (λ f. IsLoaded h rs gate f.log)
told-loaded None bytes h rs gate same kept read = tt
told-loaded (Some f) bytes h rs gate same kept read = subst (IsLoaded h rs gate) same (read (subst IsKept (sym same) kept))

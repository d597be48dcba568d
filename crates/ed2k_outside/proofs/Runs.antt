-- A run of calls of a vault goes on.
use Rattle.std.proofs.Common.{ℕ, ◌≤◌, inl, inr, sym, subst, arith}
use Rattle.ed2k_outside.specs.Files.{Files}
use Rattle.ed2k_outside.specs.Crashes.{CrashView, Crashes, Stays}
use Rattle.ed2k_outside.specs.Runs.{Idle, Ran}

-- no call yet
pub ran-start : (made : ℕ) (view : CrashView) (P Q : Files → Type 0) → ((c : Files) → view.image c → Q c) → Ran made view view P Q
ran-start made view P Q here = record { each = λ t c le left. inl left; now = here }

-- one call more
pub ran-on : {made later : ℕ} {old mid new : CrashView} {P Q R : Files → Type 0} {step : Files → Files → Type 0}
    → Ran made old mid P Q → made ≤ later → Crashes step later mid new
    → ((c d : Files) → Q d → step d c → R c) → ((c : Files) → R c → P c) → Ran made old new P R
ran-on {P = P} so later call to within = record {
  each = λ t c le left. elim (call.since t c (omega (arith, le, later)) left) [
    | inl past ↦ so.each t c le past
    | inr torn ↦ inr (within c (to c torn.0 (so.now torn.0 torn.1) torn.2))
  ];
  now = λ c left. let from = call.image c left in to c from.0 (so.now from.0 from.1) from.2;
}

-- more is known of what a crash may leave now
pub ran-now : {made : ℕ} {old new : CrashView} {P Q R : Files → Type 0}
    → Ran made old new P Q → ((c : Files) → new.image c → Q c → R c) → Ran made old new P R
ran-now so more = record { each = so.each; now = λ c left. more c left (so.now c left) }

-- one run behind another
pub ran-then : {made later : ℕ} {old mid new : CrashView} {P Q R S T : Files → Type 0}
    → Ran made old mid P Q → made ≤ later → Ran later mid new R S
    → ((c : Files) → P c → T c) → ((c : Files) → R c → T c) → Ran made old new T S
ran-then so later next first second = record {
  each = λ t c le left. elim (next.each t c (omega (arith, le, later)) left) [
    | inl past ↦ elim (so.each t c le past) [ inl before ↦ inl before | inr own ↦ inr (first c own) ]
    | inr own ↦ inr (second c own)
  ];
  now = next.now;
}

pub ran-widen : {made : ℕ} {old new : CrashView} {P Q T : Files → Type 0}
    → Ran made old new P Q → ((c : Files) → P c → T c) → ((c : Files) → Q c → T c) → Ran made old new T T
ran-widen so first second = record {
  each = λ t c le left. elim (so.each t c le left) [ inl before ↦ inl before | inr own ↦ inr (first c own) ];
  now = λ c left. second c (so.now c left);
}

-- idle runs

pub idle-start : (made : ℕ) (view : CrashView) → Idle made view view
idle-start made view = record { past = λ t c le left. left; now = λ c left. left }

-- one call more that stays
pub idle-on : {made later : ℕ} {old mid new : CrashView}
    → Idle made old mid → made ≤ later → ((t : ℕ) (c : Files) → t ≤ later → mid.image c → mid.since t c)
    → Crashes Stays later mid new → Idle made old new
idle-on {later = later_made} {mid = mid} so later counts call = record {
  past = λ t c le left.
      let early : t ≤ later_made = omega (arith, le, later) in
      so.past t c le (elim (call.since t c early left) [
        | inl past ↦ past
        | inr from ↦ counts t c early (subst mid.image (sym (from.2)) from.1)
      ]);
  now = λ c left. let from = call.image c left in so.now c (subst mid.image (sym (from.2)) from.1);
}

pub idle-then : {made later : ℕ} {old mid new : CrashView} → Idle made old mid → made ≤ later → Idle later mid new → Idle made old new
idle-then so later next = record {
  past = λ t c le left. so.past t c le (next.past t c (omega (arith, le, later)) left);
  now = λ c left. so.now c (next.now c left);
}

pub idle-call : {made : ℕ} {old new : CrashView}
    → ((t : ℕ) (c : Files) → t ≤ made → old.image c → old.since t c) → Crashes Stays made old new → Idle made old new
idle-call {made = made} {old = old} counts call = idle-on (idle-start made old) (omega arith) counts call

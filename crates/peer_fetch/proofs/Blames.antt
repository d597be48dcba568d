-- What stopped a session, and where it is seen.
use Rattle.std.proofs.Common.{◌≡◌, ◌↔◌, ℕ, ◌<◌, ◌≤◌, Bool, true, false, Option, Some, None, Result, Ok, Err, IsTrue, IsFalse, refl, ap, sym, subst, arith}
use Rattle.ed2k_outside.specs.Causes.{Rose}
use Rattle.reserve_core.specs.Desk.{HasStoreCause}
use Rattle.reserve_core.specs.declared.desk.Answer.{Answer}
use Rattle.reserve_core.specs.declared.fault.DeskFault.{DeskFault}
use Rattle.reserve_core.specs.declared.fault.DeskFault.TheVariants as faults
use Rattle.peer_fetch.specs.Machine.{Gives, cause_of, may_end_with, is_ready, is_refusal, is_store_fault, tells_store_fault}
use Rattle.peer_fetch.specs.Moves.{Blames, IsBlamed, Later, Outside, Sees}
use Rattle.peer_fetch.specs.Plan.{Plan, Begin, Send, Ask, Last, Read, Paused, Ended}
use Rattle.peer_fetch.specs.declared.cause.Cause.{Cause}
use Rattle.peer_fetch.specs.declared.cause.Cause.TheVariants as causes
use Rattle.peer_fetch.specs.declared.machine.SessionState.{SessionState}
use Rattle.peer_fetch.specs.declared.machine.SessionState.TheVariants as state
use Rattle.peer_fetch.specs.declared.machine.Next.TheVariants as next
use Rattle.peer_fetch.specs.declared.session.Session.{Session}

pub untrue : {P : Type 0} → IsTrue false → P
untrue is = absurd (cc)

by_bool : {P : Type 0} (b : Bool) → (IsTrue b → P) → (IsFalse b → P) → P
by_bool true holds fails = holds refl
by_bool false holds fails = fails refl

is_fault_told : (before now : ℕ) (fault : DeskFault) → (fault ≡ faults.Fault → Rose before now) → (fault ≡ faults.Broken → 0 < before) → before ≤ now → IsTrue (is_store_fault fault) → 0 < now
is_fault_told before now faults.Fault rose broken later told = omega (arith, rose refl)
is_fault_told before now faults.Broken rose broken later told = omega (arith, broken refl, later)
is_fault_told before now _ rose broken later told = absurd (cc)

-- where the desk tells that its store failed, its count isn't 0
pub refusal_told : {T : Type 0} (before now : ℕ) (result : Result T DeskFault) → HasStoreCause before now result → IsTrue (tells_store_fault result) → 0 < now
refusal_told before now (Ok done) cause told = absurd (cc)
refusal_told before now (Err fault) cause told =
    is_fault_told before now fault (λ is. cause.fault (ap Err is)) (λ is. cause.broken (ap Err is)) cause.later told

-- what the table names, or the store, is no more than a fault of the store
pub owed_blamed : (budget count : ℕ) (told : Bool) (cause : Cause) (old new : Outside) → (IsTrue told → 0 < count) → IsTrue (may_end_with told (Some cause)) → IsBlamed budget count cause old new
owed_blamed budget count told cause old new tells owed =
    let at : (other : Cause) → cause ≡ other → IsTrue (may_end_with told (Some other)) = λ other is. subst (λ c. IsTrue (may_end_with told (Some c))) is owed in
    record {
      wire = λ is. untrue (at causes.WireFault is);
      ended = λ is. untrue (at causes.Ended is);
      frame = λ fault is. untrue (at (causes.BadFrame fault) is);
      spent = λ is. untrue (at causes.Spent is);
      store = λ is. tells (at causes.StoreFault is);
      linked = λ is. untrue (at causes.NoLink is);
    }

owed_blames : (budget count : ℕ) (told : Bool) (found : Option Cause) (old new : Outside) → (IsTrue told → 0 < count) → IsTrue (may_end_with told found) → Blames budget count found old new
owed_blames budget count told None old new tells owed = tt
owed_blames budget count told (Some cause) old new tells owed =
    (owed_blamed budget count told cause old new tells owed, λ is. untrue (subst (λ (c : Cause). IsTrue (may_end_with told (Some c))) is owed))

-- the session ended because nothing was left to reserve
pub paused_blamed : (budget count : ℕ) (old new : Outside) → IsBlamed budget count causes.NoBlock old new
paused_blamed budget count old new = record {
  wire = λ is. absurd (cc);
  ended = λ is. absurd (cc);
  frame = λ fault is. absurd (cc);
  spent = λ is. absurd (cc);
  store = λ is. absurd (cc);
  linked = λ is. cc;
}

pub same_later : (budget : ℕ) (o : Outside) → Later budget o o
same_later budget o = record { read_faults = omega arith; write_faults = omega arith; taken = omega arith; within = omega arith; short = λ short. short }

-- the desk answered
pub sees_answered : (budget count : ℕ) (first old new : Outside) (answer : Answer) (at at2 : SessionState) → (IsTrue (is_refusal answer) → 0 < count) →
    (IsFalse (may_end_with (is_refusal answer) (cause_of at2)) → cause_of at2 ≡ cause_of at) → new ≡ old → Sees budget count first old at → Sees budget count first new at2
sees_answered budget count first old new answer at at2 tells kept same sees =
    let same_cause : IsFalse (may_end_with (is_refusal answer) (cause_of at2)) → Blames budget count (cause_of at2) first old =
    λ other. subst (λ (found : Option Cause). Blames budget count found first old) (sym (kept other)) sees.blames in
    let blames : Blames budget count (cause_of at2) first old =
    by_bool (may_end_with (is_refusal answer) (cause_of at2)) (λ owed. owed_blames budget count (is_refusal answer) (cause_of at2) first old tells owed) same_cause in
    subst (λ (o : Outside). Sees budget count first o at2) (sym same) (record { later = sees.later; blames = blames })

ready_blames : (budget count : ℕ) (o : Outside) (at : SessionState) → IsTrue (is_ready at) → Blames budget count (cause_of at) o o
ready_blames budget count o state.Fresh ready = tt
ready_blames budget count o state.Paused ready = tt
ready_blames budget count o _ ready = absurd (cc)

-- no call was begun
pub sees_ready : (budget count : ℕ) (o : Outside) (at : SessionState) → IsTrue (is_ready at) → Sees budget count o o at
sees_ready budget count o at ready = record { later = same_later budget o; blames = ready_blames budget count o at ready }

blames_later : (budget count count2 : ℕ) (found : Option Cause) (old new : Outside) → count ≤ count2 → Blames budget count found old new → Blames budget count2 found old new
blames_later budget count count2 None old new more blames = tt
blames_later budget count count2 (Some cause) old new more (blamed, final) = (
  record {
    wire = blamed.wire;
    ended = blamed.ended;
    frame = blamed.frame;
    spent = blamed.spent;
    store = λ is. omega (arith, more, blamed.store is);
    linked = blamed.linked;
  },
  final,
)

-- the store failed more often
pub sees_later : (budget count count2 : ℕ) (old new : Outside) (at : SessionState) → count ≤ count2 → Sees budget count old new at → Sees budget count2 old new at
sees_later budget count count2 old new at more sees = record { later = sees.later; blames = blames_later budget count count2 (cause_of at) old new more sees.blames }

-- the session ended
pub end_blamed : (budget count : ℕ) (plan : Plan) (cause : Cause) (s : Session) (at : SessionState) (old new : Outside) → Gives plan (next.End cause) s at → Sees budget count old new at → IsBlamed budget count cause old new
end_blamed budget count (Begin t) cause s at old new gives sees = absurd gives
end_blamed budget count (Send msg rest) cause s at old new (given, saying, then) sees = absurd (cc)
end_blamed budget count (Ask ask then) cause s at old new (given, asking, answers) sees = absurd (cc)
end_blamed budget count (Last ask then) cause s at old new (given, asking, answers) sees = absurd (cc)
end_blamed budget count (Read t) cause s at old new (given, same, waits) sees = absurd (cc)
end_blamed budget count (Paused t) cause s at old new (given, same, waits) sees =
    let is : cause ≡ causes.NoBlock = cc in
    subst (λ (c : Cause). IsBlamed budget count c old new) (sym is) (paused_blamed budget count old new)
end_blamed budget count (Ended found) cause s at old new (given, same) sees =
    let is : found ≡ cause = cc in
    let blamed : Blames budget count (Some found) old new = subst (λ (a : SessionState). Blames budget count (cause_of a) old new) same sees.blames in
    subst (λ (c : Cause). IsBlamed budget count c old new) is blamed.0

-- a session that ended for good isn't told that nothing was left to reserve
pub end_ready : (budget count : ℕ) (plan : Plan) (cause : Cause) (s : Session) (at : SessionState) (old new : Outside) → Gives plan (next.End cause) s at → Sees budget count old new at → IsTrue (is_ready at) ↔ (cause ≡ causes.NoBlock)
end_ready budget count (Begin t) cause s at old new gives sees = absurd gives
end_ready budget count (Send msg rest) cause s at old new (given, saying, then) sees = absurd (cc)
end_ready budget count (Ask ask then) cause s at old new (given, asking, answers) sees = absurd (cc)
end_ready budget count (Last ask then) cause s at old new (given, asking, answers) sees = absurd (cc)
end_ready budget count (Read t) cause s at old new (given, same, waits) sees = absurd (cc)
end_ready budget count (Paused t) cause s at old new (given, same, waits) sees =
    (λ ready. cc, λ is. subst (λ (a : SessionState). IsTrue (is_ready a)) (sym waits) refl)
end_ready budget count (Ended found) cause s at old new (given, same) sees =
    let blamed : Blames budget count (Some found) old new = subst (λ (a : SessionState). Blames budget count (cause_of a) old new) same sees.blames in
    (λ ready. absurd (untrue (subst (λ (a : SessionState). IsTrue (is_ready a)) same ready)), λ is. absurd (blamed.1 (cc)))

pub same_answer : {P : Type 0} (a b : Bool) → (IsTrue a ↔ P) → (IsTrue b ↔ P) → a ≡ b
same_answer true true first second = refl
same_answer true false first second = untrue (second.1 (first.0 refl))
same_answer false true first second = untrue (first.1 (second.0 refl))
same_answer false false first second = refl

-- What a desk answers to the peer that it serves, and what it adds to the log.
use Rattle.std.specs.Prelude.{◌≡◌, ◌≢◌, ◌⊎◌, ℕ, ◌+◌, ◌<◌, ◌≤◌, Bool, true, false, not, List, [], ◌∷◌, ◌++◌, length, ◌==◌, Option, Some, None, Result, Err, IsTrue, if◌then◌else◌, IfOk, IfSome, MatchResult}
use Rattle.std.specs.List.{filter}
use Rattle.ed2k_outside.specs.Causes.{IfKnown, Rose}
use Rattle.ed2k_outside.specs.Crashes.{Torn}
use Rattle.ed2k_outside.specs.Files.{overwritten}
use Rattle.md4_hash.specs.Md4.{md4}
use Rattle.part_sizes.specs.Part.{part}
use Rattle.part_hashset.specs.declared.aim.Aim.{Aim}
use Rattle.part_sizes.specs.declared.span.Span.{Span}
use Rattle.reserve_core.specs.Refusals.{refusal}
use Rattle.reserve_core.specs.Choice.{pick_of}
use Rattle.reserve_core.specs.Events.{events}
use Rattle.reserve_core.specs.Filled.{IsFullPart, is_uncommitted}
use Rattle.reserve_core.specs.Held.{is_holder}
use Rattle.part_hashset.specs.Goals.{is_nil, is_wanted}
use Rattle.reserve_core.specs.Verdicts.{goal, kept_set, next_failed}
use Rattle.reserve_core.specs.declared.desk.DeskAsk.{DeskAsk}
use Rattle.reserve_core.specs.declared.desk.DeskAsk.TheVariants as ask
use Rattle.reserve_core.specs.declared.desk.Answer.{Answer}
use Rattle.reserve_core.specs.declared.desk.Answer.TheVariants as answer
use Rattle.reserve_core.specs.declared.event.Entry.{Entry}
use Rattle.reserve_core.specs.declared.event.Event.{Event}
use Rattle.reserve_core.specs.declared.event.Event.TheVariants as event
use Rattle.reserve_core.specs.declared.event.Event.TheVariants.{Offer, Reserve, Write, Release}
use Rattle.reserve_core.specs.declared.fault.DeskFault.{DeskFault}
use Rattle.reserve_core.specs.declared.fault.DeskFault.TheVariants.{Broken, Fault, NoMemory}
use Rattle.reserve_core.specs.declared.verdict.Verdict.{Verdict as Judgement}
use Rattle.reserve_core.specs.declared.verdict.Verdict.TheVariants as judgement

-- the events of a peer's own: its offers, and what it reserved, wrote and released
abbrev pub is_own : ℕ → Event → Bool
is_own p (Offer q bits) = q == p
is_own p (Reserve q spans) = q == p
is_own p (Write q r) = q == p
is_own p (Release q) = q == p
is_own p _ = false

abbrev pub own : List Event → ℕ → List Event
own h p = filter (is_own p) h

-- the store's own causes, and want of memory, are none that the log tells
abbrev pub is_outside : DeskFault → Bool
is_outside Broken = true
is_outside Fault = true
is_outside NoMemory = true
is_outside _ = false

-- a call is refused by the first cause that its log tells, or by one from outside
abbrev pub IsRefused : Option DeskFault → DeskFault → Type 0
IsRefused cause fault = IsTrue (is_outside fault) ⊎ (cause ≡ Some fault)

-- a call adds its event where it is Ok, and else nothing
abbrev pub AddsOrRefuses : {T : Type 0} → Aim → List Event → Event → Result T DeskFault → List Event → Type 0
AddsOrRefuses aim h e result added =
    MatchResult result
    (λ _. (refusal aim h e ≡ None) × (added ≡ e ∷ []))
    (λ fault. IsRefused (refusal aim h e) fault × (added ≡ []))

-- a release adds an event where the peer holds a range, and a commit where something was written since the
-- last one
abbrev pub release_events : List Event → ℕ → List Event
release_events h p = if is_holder h p then event.Release p ∷ [] else []

abbrev pub commit_events : List Event → List Event
commit_events h = if is_uncommitted h then event.Commit ∷ [] else []

-- the span of a piece that begins at a position
abbrev pub span_at : ℕ → List ℕ → Span
span_at at piece = record { s = at; e = at + length piece }

-- what a verdict says of a part's digest
abbrev pub verdict_on : Aim → List Event → ℕ → List ℕ → Judgement
verdict_on aim h i digest = if is_wanted (goal aim h i) digest then judgement.Verified else judgement.Failed

-- Each call, by its ask and its answer, after the events of a log: what is answered, and what is added.
abbrev pub Answered : Aim → ℕ → List Event → DeskAsk → Answer → List Event → Type 0
Answered aim p h ask.HasSet (answer.HasSet kept) added = (kept ≡ not (is_nil (kept_set h))) × (added ≡ [])
Answered aim p h ask.Holds (answer.Holds holding) added = (holding ≡ is_holder h p) × (added ≡ [])
Answered aim p h (ask.NextFailed from) (answer.NextFailed found) added = (found ≡ next_failed aim h from) × (added ≡ [])
Answered aim p h (ask.Hashes set) (answer.Hashes result) added = AddsOrRefuses aim h (event.Hashes set) result added
Answered aim p h (ask.Offer bits) (answer.Offer result) added = AddsOrRefuses aim h (event.Offer p bits) result added
Answered aim p h ask.Reserve (answer.Reserve result) added =
    AddsOrRefuses aim h (event.Reserve p (pick_of aim.size h p)) result added × IfOk result (λ spans. spans ≡ pick_of aim.size h p)
Answered aim p h (ask.Write at piece) (answer.Write result) added =
    AddsOrRefuses aim h (event.Write p (span_at at piece)) result added
    × IfOk result (λ written. IsFullPart aim.size (h ++ added) at written.full)
Answered aim p h ask.Release answer.Release added = (added ≡ release_events h p) ⊎ (added ≡ [])
Answered aim p h ask.Commit (answer.Commit result) added =
    MatchResult result (λ _. added ≡ commit_events h) (λ fault. IsTrue (is_outside fault) × (added ≡ []))
Answered aim p h (ask.Verify i) (answer.Verify result) added =
    (digest : List ℕ) × AddsOrRefuses aim h (event.Verdict i digest) result added
    × IfOk result (λ verdict. verdict ≡ verdict_on aim h i digest)
Answered aim p h (ask.DropPart i) (answer.DropPart result) added = AddsOrRefuses aim h (event.Dropped i) result added
Answered aim p h _ _ added = ⊥

-- what a call makes of the body: an Ok of a write lays its piece over it, a Fault of one leaves any bytes in
-- the piece's span alone, and all else leaves it as it was
abbrev pub LaysBody : DeskAsk → Answer → List ℕ → List ℕ → Type 0
LaysBody (ask.Write at piece) (answer.Write result) old new =
    MatchResult result
    (λ _. new ≡ overwritten old at piece)
    (λ fault. (fault ≡ Fault → Torn at (length piece) old new) × (fault ≢ Fault → new ≡ old))
LaysBody _ _ old new = new ≡ old

-- each verdict is the MD4 of that part's bytes in the body
abbrev pub AreTrue : List ℕ → List Event → Type 0
AreTrue body [] = Unit {0}
AreTrue body (event.Verdict i digest ∷ h) = (digest ≡ md4 (part body i)) × AreTrue body h
AreTrue body (_ ∷ h) = AreTrue body h

-- A call on a desk: what others added first, and then what the call added to that. Where the desk is alone,
-- others added nothing; where it tells its body, the call's verdict is true of it, and a write lays its piece.
pub record IsDeskCall (aim : Aim) (p : ℕ) (alone : Bool) (ask : DeskAsk) (answer : Answer)
    (old new : List Entry) (body body_after : Option (List ℕ)) : Type 0 where
  pub others : List Entry
  pub mine : List Entry
  pub grows : new ≡ (old ++ others) ++ mine
  pub foreign : own (events others) p ≡ []
  pub none_else : IsTrue alone → others ≡ []
  pub answered : Answered aim p (events (old ++ others)) ask answer (events mine)
  pub judged : IfSome body (λ bytes. AreTrue bytes (events mine))
  pub laid : IfKnown (LaysBody ask answer) body body_after

-- the count of store faults didn't fall, the store failed only where it rose, and had failed only where it
-- was not 0
pub record HasStoreCause {T : Type 0} (before now : ℕ) (result : Result T DeskFault) : Type 0 where
  pub later : before ≤ now
  pub fault : result ≡ Err Fault → Rose before now
  pub broken : result ≡ Err Broken → 0 < before

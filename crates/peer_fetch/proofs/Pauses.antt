-- Talks that end because nothing was left to reserve.
use Rattle.std.proofs.Common.{◌≡◌, ◌≢◌, ◌⊎◌, ℕ, ◌≤◌, ◌==◌, Bool, true, false, List, [], ◌∷◌, ◌++◌, Option, Some, None, unwrap_or, Result, Ok, Err, IsTrue, IsFalse, is_none, nat_le, nat_lt, if◌then◌else◌, refl, ap, sym, subst, ◌∙◌, inl, inr, append_assoc, arith}
use Rattle.std.specs.Option.{option_map}
use Rattle.std.proofs.lemmas.Bool.Decides.{nat_tests}
use Rattle.std.proofs.lemmas.List.{append-nil}
use Rattle.std.proofs.lemmas.List.Elements.{filter-append}
use Rattle.client_msgs.specs.declared.msg.PeerMsg.{PeerMsg}
use Rattle.client_msgs.specs.declared.msg.PeerMsg.TheVariants as msgs
use Rattle.part_hashset.specs.declared.aim.Aim.{Aim}
use Rattle.part_sizes.specs.Part.{data_parts}
use Rattle.part_sizes.specs.declared.part.TheConstants.{PART}
use Rattle.reserve_core.specs.Refusals.{refusal}
use Rattle.reserve_core.specs.Choice.{pick_of}
use Rattle.reserve_core.specs.Desk.{AddsOrRefuses, Answered, IsRefused, commit_events as committed_by, is_own, own, release_events, span_at}
use Rattle.reserve_core.specs.Filled.{is_uncommitted}
use Rattle.reserve_core.specs.Held.{is_holder}
use Rattle.reserve_core.specs.declared.desk.Answer.{Answer}
use Rattle.reserve_core.specs.declared.desk.Answer.TheVariants as answers
use Rattle.reserve_core.specs.declared.desk.DeskAsk.{DeskAsk}
use Rattle.reserve_core.specs.declared.desk.DeskAsk.TheVariants as asks
use Rattle.reserve_core.specs.declared.event.Event.{Event}
use Rattle.reserve_core.specs.declared.event.Event.TheVariants as event
use Rattle.reserve_core.specs.declared.event.Opened.{Opened}
use Rattle.reserve_core.specs.declared.fault.DeskFault.{DeskFault}
use Rattle.reserve_core.specs.declared.fault.DeskFault.TheVariants as faults
use Rattle.reserve_core.specs.declared.verdict.Verdict.TheVariants.{Failed, Verified}
use Rattle.peer_fetch.specs.Fetches.{Chained, Due, EndsWith, Inside, Talk, standing}
use Rattle.peer_fetch.specs.Moves.{Outside}
use Rattle.peer_fetch.specs.Plan.{Plan, Begin, Send, Ask, Last, Read, Paused, Ended}
use Rattle.peer_fetch.specs.Table.{commit_cause, commit_answered, drop_answered, ends_by, file_status, part_filled, finish, holds_answered, is_count, is_ours, verify_answered, with_offer as with_bits, look, has_parts, no_file, offer_answered, pause, end_pause, end_or, reserve_answered, row_at, has_set_answered, hashes_answered, start, start_upload, turn, write_answered}
use Rattle.peer_fetch.specs.Talk.{Act, Begins, Sends, Breaks, Asks, Takes, Stops, BeginsFirst, MayCome, after, Run, IsBreak, IsStop, added, heard}
use Rattle.peer_fetch.specs.declared.cause.Cause.{Cause}
use Rattle.peer_fetch.specs.declared.cause.Cause.TheVariants as causes
use Rattle.peer_fetch.specs.declared.session.Place.{Place}
use Rattle.peer_fetch.specs.declared.session.Place.TheVariants as places
use Rattle.peer_fetch.specs.declared.session.Session.{Session}
use Rattle.peer_fetch.proofs.Moves.{heard_on}

-- ---- causes that are not the want of something to reserve

-- a cause, where there is one, is another
abbrev IsOther : Option Cause → Type 0
IsOther None = Unit {0}
IsOther (Some cause) = cause ≢ causes.NoBlock

ends_by_other : (fault : DeskFault) → IsOther (ends_by fault)
ends_by_other faults.Fault = λ is. cc
ends_by_other faults.Broken = λ is. cc
ends_by_other faults.NoMemory = λ is. cc
ends_by_other _ = tt

commit_other : (answer : Answer) → IsOther (commit_cause answer)
commit_other (answers.Commit (Err fault)) = ends_by_other fault
commit_other (answers.Commit (Ok done)) = tt
commit_other _ = tt

or_other : (found : Option Cause) (cause : Cause) → IsOther found → cause ≢ causes.NoBlock → unwrap_or found cause ≢ causes.NoBlock
or_other None cause first other = other
or_other (Some found) cause first other = first

stop_other : (cause : Cause) → IsStop cause → cause ≢ causes.NoBlock
stop_other causes.NoBlock stops = absurd stops
stop_other _ stops = λ is. cc

break_other : (cause : Cause) → IsBreak cause → cause ≢ causes.NoBlock
break_other causes.NoBlock breaks = absurd breaks
break_other _ breaks = λ is. cc

-- ---- plans that come to no pause before a message is taken

abbrev Waits : Plan → Type 0
Waits (Begin s) = ⊥
Waits (Send msg rest) = Waits rest
Waits (Ask ask follows) = ⊥
Waits (Last ask follows) = (answer : Answer) → Waits (follows answer)
Waits (Read s) = Unit {0}
Waits (Paused s) = ⊥
Waits (Ended cause) = cause ≢ causes.NoBlock

finish_waits : (cause : Cause) → cause ≢ causes.NoBlock → Waits (finish cause)
finish_waits cause other = λ answer answer2. or_other (commit_cause answer2) cause (commit_other answer2) other

waits_at_end : (plan : Plan) → Waits plan → EndsWith plan causes.NoBlock → ⊥
waits_at_end (Begin s) waits ends = waits
waits_at_end (Send msg rest) waits ends = ends
waits_at_end (Ask ask follows) waits ends = ends
waits_at_end (Last ask follows) waits ends = ends
waits_at_end (Read s) waits ends = ends
waits_at_end (Paused s) waits ends = waits
waits_at_end (Ended cause) waits ends = waits (sym ends)

waits_after : (plan : Plan) (act : Act) → Waits plan → MayCome plan act → (1 ≤ heard (act ∷ [])) ⊎ Waits (after plan act)
waits_after (Begin s) act waits fits = absurd waits
waits_after (Send msg rest) (Sends sent) waits fits = inr waits
waits_after (Send msg rest) (Breaks sent part cause) waits (said, breaks, front) = inr (finish_waits cause (break_other cause breaks))
waits_after (Send msg rest) _ waits fits = absurd fits
waits_after (Ask ask follows) act waits fits = absurd waits
waits_after (Last ask follows) (Asks asked answer new) waits fits = inr (waits answer)
waits_after (Last ask follows) _ waits fits = absurd fits
waits_after (Read s) (Takes msg) waits fits = inl (omega arith)
waits_after (Read s) (Stops cause) waits fits = inr (finish_waits cause (stop_other cause fits))
waits_after (Read s) _ waits fits = absurd fits
waits_after (Paused s) act waits fits = absurd waits
waits_after (Ended cause) act waits fits = absurd fits

-- a pause comes only behind a message
waits_hear : (plan to : Plan) (acts : List Act) → Waits plan → Run plan acts to → EndsWith to causes.NoBlock → 1 ≤ heard acts
waits_hear plan to [] waits run ends = absurd (waits_at_end plan waits (subst (λ q. EndsWith q causes.NoBlock) (sym run) ends))
waits_hear plan to (act ∷ acts) waits (fits, run) ends = elim (waits_after plan act waits fits) [
  | inl takes ↦ omega (arith, takes, heard_on (act ∷ []) acts)
  | inr more ↦ omega (arith, heard_on (act ∷ []) acts, waits_hear (after plan act) to acts more run ends)
]

-- ---- a talk from the begin hears a message

begin_hears : (s : Session) (to : Plan) (acts : List Act) → Run (Begin s) acts to → EndsWith to causes.NoBlock → 1 ≤ heard acts
begin_hears s to [] run ends = absurd (subst (λ q. EndsWith q causes.NoBlock) (sym run) ends)
begin_hears s to (Begins ∷ acts) (fits, run) ends = waits_hear (start s) to acts tt run ends
begin_hears s to (_ ∷ acts) (fits, run) ends = absurd fits

-- A talk that begins a session, and ends because nothing was left to reserve, takes a message.
pub begun : (aim : Aim) (p : ℕ) (from to : Due) (old new : Outside) (before now : Inside) (s : Session) →
    (talk : Talk aim p (standing from old before) (standing to new now) causes.NoBlock) → from.plan ≡ Begin s → 1 ≤ heard talk.acts
begun aim p from to old new before now s talk is =
    begin_hears s to.plan talk.acts (subst (λ plan. Run plan talk.acts to.plan) is talk.runs) talk.ends

-- ---- what the calls at the end add

frees : (aim : Aim) (p : ℕ) (h : List Event) (answer : Answer) (new : List Event) → Answered aim p h asks.Release answer new → (new ≡ release_events h p) ⊎ (new ≡ [])
frees aim p h answers.Release new answered = answered
frees aim p h _ new answered = absurd answered

keeps : (aim : Aim) (p : ℕ) (h : List Event) (answer : Answer) (new : List Event) → Answered aim p h asks.Commit answer new → (new ≡ committed_by h) ⊎ (new ≡ [])
keeps aim p h (answers.Commit (Ok done)) new answered = inl answered
keeps aim p h (answers.Commit (Err told)) new answered = inr answered.1
keeps aim p h _ new answered = absurd answered

released_none : (p : ℕ) (holding : Bool) → IsFalse holding → (if holding then event.Release p ∷ [] else []) ≡ []
released_none p true none = absurd (cc)
released_none p false none = refl

committed_none : (waiting : Bool) → IsFalse waiting → (if waiting then event.Commit ∷ [] else []) ≡ []
committed_none true none = absurd (cc)
committed_none false none = refl

frees_none : (p : ℕ) (h new : List Event) → IsFalse (is_holder h p) → (new ≡ release_events h p) ⊎ (new ≡ []) → new ≡ []
frees_none p h new none freed = elim freed [ inl is ↦ is ∙ released_none p (is_holder h p) none | inr is ↦ is ]

keeps_none : (h new : List Event) → IsFalse (is_uncommitted h) → (new ≡ committed_by h) ⊎ (new ≡ []) → new ≡ []
keeps_none h new none kept = elim kept [ inl is ↦ is ∙ committed_none (is_uncommitted h) none | inr is ↦ is ]

-- ---- a talk from a pause that hears no message

-- what is due behind a refusal because nothing is left to reserve is the pause, and else nothing comes to one
-- before a message is taken
refused_waits : (on : Plan) (found : Option Cause) → IsOther found → Waits on → Waits (unwrap_or (option_map finish found) on)
refused_waits on None other waits = waits
refused_waits on (Some cause) other waits = finish_waits cause other

abbrev IsEmpty : Answer → Type 0
IsEmpty answer = answer ≡ answers.Reserve (Err faults.NoBlock)

reserved_waits : (s : Session) (answer : Answer) → IsEmpty answer ⊎ Waits (reserve_answered s answer)
reserved_waits s (answers.Reserve (Ok spans)) = inr tt
reserved_waits s (answers.Reserve (Err faults.NoBlock)) = inl refl
reserved_waits s (answers.Reserve (Err faults.Cheat)) = inr (finish_waits causes.Cheat (λ is. cc))
reserved_waits s (answers.Reserve (Err (faults.Worn part))) = inr (finish_waits (causes.Worn part) (λ is. cc))
reserved_waits s (answers.Reserve (Err fault)) = inr (refused_waits (Read s) (ends_by fault) (ends_by_other fault) tt)
reserved_waits s _ = inr tt

-- a log that is left as it was
pub record IsIdle (p : ℕ) (h : List Event) : Type 0 where
  pub committed : IsFalse (is_uncommitted h)
  pub free : IsFalse (is_holder h p)

nothing_more : (h new : List Event) → new ≡ [] → h ++ new ≡ h
nothing_more h new none = ap (λ tail. h ++ tail) none ∙ append-nil h

-- how far a session has come from one pause to the next
data Step : Type 0 where
  Rests : Step
  Turns : Step
  Frees : Step
  Saves : Step

abbrev due_at : Step → Session → Plan
due_at Rests s = Paused s
due_at Turns s = turn s
due_at Frees s = pause s
due_at Saves s = Last asks.Commit (λ answer. end_pause s (commit_cause answer))

silent : (acts : List Act) → heard acts ≡ 0 → 1 ≤ heard acts → ⊥
silent acts none some = omega (arith, none, some)

adds_nothing : (aim : Aim) (p : ℕ) (h : List Event) (answer : Answer) (new : List Event) → IsEmpty answer → Answered aim p h asks.Reserve answer new → new ≡ []
adds_nothing aim p h answer new empty answered = let refusal_is = subst (λ (a : Answer). Answered aim p h asks.Reserve a new) empty answered in refusal_is.0.1

turned : (to : Plan) (acts : List Act) (s : Session) (answer : Answer) {P : Type 0} → heard acts ≡ 0 → EndsWith to causes.NoBlock → Run (reserve_answered s answer) acts to → (IsEmpty answer → Run (pause s) acts to → P) → P
turned to acts s answer none ends run goes = elim (reserved_waits s answer) [
  | inl empty ↦ goes empty (subst (λ (a : Answer). Run (reserve_answered s a) acts to) empty run)
  | inr waits ↦ absurd (silent acts none (waits_hear (reserve_answered s answer) to acts waits run ends))
]

rested : (to : Plan) (acts : List Act) (s : Session) (found : Option Cause) {P : Type 0} → IsOther found → heard acts ≡ 0 → EndsWith to causes.NoBlock → Run (end_pause s found) acts to → (Run (Paused s) acts to → P) → P
rested to acts s None other none ends run goes = goes run
rested to acts s (Some cause) other none ends run goes = absurd (silent acts none (waits_hear (Ended cause) to acts other run ends))

stays : (aim : Aim) (p : ℕ) (to : Plan) (acts : List Act) (step : Step) (s : Session) (h now : List Event) → EndsWith to causes.NoBlock → IsIdle p h → Run (due_at step s) acts to → Chained aim p h acts now → heard acts ≡ 0 → now ≡ h
stays aim p to [] step s h now ends idle run chained none = chained
stays aim p to (Begins ∷ acts) Rests s h now ends idle (fits, run) chained none = stays aim p to acts Turns s h now ends idle run chained none
stays aim p to (Asks ask answer new ∷ acts) Turns s h now ends idle (fits, run) (answered, chained) none =
    let serves = subst (λ (a : DeskAsk). Answered aim p h a answer new) fits answered in
    turned to acts s answer none ends run
    (λ empty further.
    let same = nothing_more h new (adds_nothing aim p h answer new empty serves) in
    stays aim p to acts Frees s h now ends idle further (subst (λ log. Chained aim p log acts now) same chained) none)
stays aim p to (Asks ask answer new ∷ acts) Frees s h now ends idle (fits, run) (answered, chained) none =
    let serves = subst (λ (a : DeskAsk). Answered aim p h a answer new) fits answered in
    let same = nothing_more h new (frees_none p h new idle.free (frees aim p h answer new serves)) in
    stays aim p to acts Saves s h now ends idle run (subst (λ log. Chained aim p log acts now) same chained) none
stays aim p to (Asks ask answer new ∷ acts) Saves s h now ends idle (fits, run) (answered, chained) none =
    let serves = subst (λ (a : DeskAsk). Answered aim p h a answer new) fits answered in
    let same = nothing_more h new (keeps_none h new idle.committed (keeps aim p h answer new serves)) in
    rested to acts s (commit_cause answer) (commit_other answer) none ends run
    (λ further. stays aim p to acts Rests s h now ends idle further (subst (λ log. Chained aim p log acts now) same chained) none)
stays aim p to (_ ∷ acts) Rests s h now ends idle (fits, run) chained none = absurd fits
stays aim p to (_ ∷ acts) Turns s h now ends idle (fits, run) chained none = absurd fits
stays aim p to (_ ∷ acts) Frees s h now ends idle (fits, run) chained none = absurd fits
stays aim p to (_ ∷ acts) Saves s h now ends idle (fits, run) chained none = absurd fits

-- A talk that goes on from a pause, takes no message and ends because nothing was left to reserve leaves the log
-- as it was, where nothing waits for a commit and the peer holds nothing.
pub idle : (aim : Aim) (p : ℕ) (from to : Due) (old new : Outside) (before now : Inside) (s : Session) →
    (talk : Talk aim p (standing from old before) (standing to new now) causes.NoBlock) → from.plan ≡ Paused s → heard talk.acts ≡ 0 → IsTrue before.alone →
    IsFalse (is_uncommitted before.log) → IsFalse (is_holder before.log p) → now.log ≡ before.log
idle aim p from to old new before now s talk is none alone settled free =
    let resting : IsIdle p before.log = record { committed = settled; free = free } in
    stays aim p to.plan talk.acts Rests s before.log now.log talk.ends resting (subst (λ plan. Run plan talk.acts to.plan) is talk.runs) (talk.chained alone) none

-- ---- the log of one peer

-- the log has no event of any other peer's own
abbrev pub IsOwnLog : ℕ → List Event → Type 0
IsOwnLog p h = (q : ℕ) → (q ≡ p → ⊥) → own h q ≡ []

other_peer : (p q : ℕ) → (q ≡ p → ⊥) → IsFalse (p == q)
other_peer p q other = grind (arith, nat_tests)

not_owned : (q : ℕ) (e : Event) (new : List Event) → IsFalse (is_own q e) → new ≡ e ∷ [] → own new q ≡ []
not_owned q e new other is = ap (λ h. own h q) is ∙ rw other refl

none_owned : (q : ℕ) (new : List Event) → new ≡ [] → own new q ≡ []
none_owned q new is = ap (λ h. own h q) is

adds_foreign : {T : Type 0} (aim : Aim) (h : List Event) (e : Event) (result : Result T DeskFault) (new : List Event) (q : ℕ) → IsFalse (is_own q e) → AddsOrRefuses aim h e result new → own new q ≡ []
adds_foreign {T} aim h e (Ok done) new q other adds = not_owned q e new other adds.1
adds_foreign {T} aim h e (Err told) new q other adds = none_owned q new adds.1

released_foreign : (p q : ℕ) (holding : Bool) → IsFalse (p == q) → own (if holding then event.Release p ∷ [] else []) q ≡ []
released_foreign p q true other = rw other refl
released_foreign p q false other = refl

committed_foreign : (q : ℕ) (waiting : Bool) → own (if waiting then event.Commit ∷ [] else []) q ≡ []
committed_foreign q true = refl
committed_foreign q false = refl

answer_foreign : (aim : Aim) (p : ℕ) (h : List Event) (ask : DeskAsk) (answer : Answer) (new : List Event) (q : ℕ) → IsFalse (p == q) → Answered aim p h ask answer new → own new q ≡ []
answer_foreign aim p h asks.HasSet (answers.HasSet kept) new q other answered = none_owned q new answered.1
answer_foreign aim p h asks.Holds (answers.Holds holding) new q other answered = none_owned q new answered.1
answer_foreign aim p h (asks.NextFailed from) (answers.NextFailed found) new q other answered = none_owned q new answered.1
answer_foreign aim p h (asks.Hashes set) (answers.Hashes result) new q other answered = adds_foreign aim h (event.Hashes set) result new q refl answered
answer_foreign aim p h (asks.Offer bits) (answers.Offer result) new q other answered = adds_foreign aim h (event.Offer p bits) result new q other answered
answer_foreign aim p h asks.Reserve (answers.Reserve result) new q other answered = adds_foreign aim h (event.Reserve p (pick_of aim.size h p)) result new q other answered.0
answer_foreign aim p h (asks.Write at piece) (answers.Write result) new q other answered = adds_foreign aim h (event.Write p (span_at at piece)) result new q other answered.0
answer_foreign aim p h asks.Release answer new q other answered = elim (frees aim p h answer new answered) [
  | inl is ↦ ap (λ log. own log q) is ∙ released_foreign p q (is_holder h p) other
  | inr none ↦ none_owned q new none
]
answer_foreign aim p h asks.Commit answer new q other answered = elim (keeps aim p h answer new answered) [
  | inl is ↦ ap (λ log. own log q) is ∙ committed_foreign q (is_uncommitted h)
  | inr none ↦ none_owned q new none
]
answer_foreign aim p h (asks.Verify i) (answers.Verify result) new q other answered = adds_foreign aim h (event.Verdict i answered.0) result new q refl answered.1
answer_foreign aim p h (asks.DropPart i) (answers.DropPart result) new q other answered = adds_foreign aim h (event.Dropped i) result new q refl answered
answer_foreign aim p h _ _ new q other answered = absurd answered

owned_append : (p : ℕ) (h new : List Event) → IsOwnLog p h → IsOwnLog p new → IsOwnLog p (h ++ new)
owned_append p h new first later = λ q other. filter-append (is_own q) h new ∙ ap (λ tail. tail ++ own new q) (first q other) ∙ later q other

chained_own : (aim : Aim) (p : ℕ) (acts : List Act) (h now : List Event) → IsOwnLog p h → Chained aim p h acts now → IsOwnLog p now
chained_own aim p [] h now owned chained = subst (IsOwnLog p) (sym chained) owned
chained_own aim p (Begins ∷ acts) h now owned chained = chained_own aim p acts h now owned chained
chained_own aim p (Sends msg ∷ acts) h now owned chained = chained_own aim p acts h now owned chained
chained_own aim p (Breaks msg part cause ∷ acts) h now owned chained = chained_own aim p acts h now owned chained
chained_own aim p (Asks ask answer new ∷ acts) h now owned (answered, chained) =
    chained_own aim p acts (h ++ new) now (owned_append p h new owned (λ q other. answer_foreign aim p h ask answer new q (other_peer p q other) answered)) chained
chained_own aim p (Takes msg ∷ acts) h now owned chained = chained_own aim p acts h now owned chained
chained_own aim p (Stops cause ∷ acts) h now owned chained = chained_own aim p acts h now owned chained

-- a talk over a desk that nobody else uses adds no event of another peer's own
pub own_log : (aim : Aim) (p : ℕ) (from to : Due) (old new : Outside) (before now : Inside) (cause : Cause) →
    Talk aim p (standing from old before) (standing to new now) cause → IsTrue before.alone → IsOwnLog p before.log → IsOwnLog p now.log
own_log aim p from to old new before now cause talk alone owned = chained_own aim p talk.acts before.log now.log owned (talk.chained alone)

-- nor does more of a log that has no event of a peer's own
pub own_log_on : (p : ℕ) (h more : List Event) → ((q : ℕ) → own more q ≡ []) → IsOwnLog p h → IsOwnLog p (h ++ more)
own_log_on p h more foreign owned = owned_append p h more owned (λ q other. foreign q)

-- the log of a store as it is made, and with its set, has none
pub own_log_opened : (p : ℕ) (o : Opened) → IsOwnLog p (event.Opened o ∷ [])
own_log_opened p o = λ q other. refl

pub own_log_hashed : (p : ℕ) (o : Opened) (set : List (List ℕ)) → IsOwnLog p (event.Opened o ∷ event.Hashes set ∷ [])
own_log_hashed p o set = λ q other. refl

-- ---- a talk that ends because nothing was left to reserve ends with that refusal

-- The last acts are a reserve that was refused because nothing was left, and the release and the commit behind
-- it.
pub record Pauses (acts : List Act) : Type 0 where
  pub front : List Act
  pub new : List Event
  pub release : Answer
  pub freed : List Event
  pub commit : Answer
  pub kept : List Event
  pub is : acts ≡ front ++ Asks asks.Reserve (answers.Reserve (Err faults.NoBlock)) new ∷ Asks asks.Release release freed ∷ Asks asks.Commit commit kept ∷ []

one_more : (act : Act) (acts : List Act) → Pauses acts → Pauses (act ∷ acts)
one_more act acts pauses = record {
  front = act ∷ pauses.front;
  new = pauses.new;
  release = pauses.release;
  freed = pauses.freed;
  commit = pauses.commit;
  kept = pauses.kept;
  is = ap (λ more. act ∷ more) pauses.is;
}

-- how far a talk is on the way to a pause: not on it, behind the refusal, the release and the commit
data Stage : Type 0 where
  Before : Stage
  Refused : Stage
  Freed : Stage
  Kept : Stage

abbrev behind : DeskAsk → Answer → Stage
behind asks.Reserve (answers.Reserve (Err faults.NoBlock)) = Refused
behind _ _ = Before

-- the plan comes to a pause only behind that refusal, the release and the commit
abbrev Leads : Plan → Stage → Type 0
Leads (Begin s) Before = Unit {0}
Leads (Send msg rest) Before = Leads rest Before
Leads (Ask ask follows) Before = (answer : Answer) → Leads (follows answer) (behind ask answer)
Leads (Last ask follows) Before = (answer : Answer) → Leads (follows answer) (behind ask answer)
Leads (Last ask follows) Refused = (ask ≡ asks.Release) × ((answer : Answer) → Leads (follows answer) Freed)
Leads (Last ask follows) Freed = (ask ≡ asks.Commit) × ((answer : Answer) → Leads (follows answer) Kept)
Leads (Read s) Before = Unit {0}
Leads (Paused s) Kept = Unit {0}
Leads (Ended cause) Before = cause ≢ causes.NoBlock
Leads (Ended cause) Kept = cause ≢ causes.NoBlock
Leads _ _ = ⊥

by_if : (b : Bool) (first other : Plan) (stage : Stage) → Leads first stage → Leads other stage → Leads (if b then first else other) stage
by_if true first other stage leads leads2 = leads
by_if false first other stage leads leads2 = leads2

finish_leads : (cause : Cause) → cause ≢ causes.NoBlock → Leads (finish cause) Before
finish_leads cause other = λ answer answer2. or_other (commit_cause answer2) cause (commit_other answer2) other

refused_leads : (on : Plan) (fault : DeskFault) → Leads on Before → Leads (end_or on fault) Before
refused_leads on fault leads = by_cause (ends_by fault) (ends_by_other fault)
  where
    by_cause : (found : Option Cause) → IsOther found → Leads (unwrap_or (option_map finish found) on) Before
    by_cause None other = leads
    by_cause (Some cause) other = finish_leads cause other

paused_leads : (s : Session) (found : Option Cause) → IsOther found → Leads (end_pause s found) Kept
paused_leads s None other = tt
paused_leads s (Some cause) other = other

pause_leads : (s : Session) → Leads (pause s) Refused
pause_leads s = (refl, λ answer. (refl, λ answer2. paused_leads s (commit_cause answer2) (commit_other answer2)))

turn_leads : (s : Session) (answer : Answer) → Leads (reserve_answered s answer) (behind asks.Reserve answer)
turn_leads s (answers.Reserve (Ok spans)) = tt
turn_leads s (answers.Reserve (Err faults.NoBlock)) = pause_leads s
turn_leads s (answers.Reserve (Err faults.Cheat)) = finish_leads causes.Cheat (λ is. cc)
turn_leads s (answers.Reserve (Err (faults.Worn part))) = finish_leads (causes.Worn part) (λ is. cc)
turn_leads s (answers.Reserve (Err told)) = refused_leads (Read s) told tt
turn_leads s _ = tt

look_leads : (s : Session) (answer : Answer) → Leads (holds_answered s answer) Before
look_leads s (answers.Holds false) = λ answer. turn_leads s answer
look_leads s (answers.Holds true) = tt
look_leads s _ = tt

dropped_leads : (s : Session) (answer : Answer) → Leads (drop_answered s answer) Before
dropped_leads s (answers.DropPart (Ok done)) = λ answer. look_leads s answer
dropped_leads s (answers.DropPart (Err told)) = refused_leads (look s) told (λ answer. look_leads s answer)
dropped_leads s _ = tt

judged_leads : (s : Session) (part : ℕ) (answer : Answer) → Leads (verify_answered s part answer) Before
judged_leads s part (answers.Verify (Ok Failed)) = by_if (is_none s.aim.root) (Ask (asks.DropPart part) (drop_answered s)) (look s) Before (λ answer. dropped_leads s answer) (λ answer. look_leads s answer)
judged_leads s part (answers.Verify (Ok Verified)) = λ answer. look_leads s answer
judged_leads s part (answers.Verify (Err told)) = refused_leads (look s) told (λ answer. look_leads s answer)
judged_leads s part _ = tt

committed_leads : (s : Session) (part : ℕ) (answer : Answer) → Leads (commit_answered s part answer) Before
committed_leads s part (answers.Commit (Ok done)) = λ answer. judged_leads s part answer
committed_leads s part (answers.Commit (Err told)) = refused_leads (look s) told (λ answer. look_leads s answer)
committed_leads s part _ = tt

filled_leads : (s : Session) (full : Option ℕ) → Leads (part_filled s full) Before
filled_leads s None = λ answer. look_leads s answer
filled_leads s (Some part) = λ answer. committed_leads s part answer

wrote_leads : (s : Session) (answer : Answer) → Leads (write_answered s answer) Before
wrote_leads s (answers.Write (Ok written)) = filled_leads s written.full
wrote_leads s (answers.Write (Err told)) = refused_leads (Read s) told tt
wrote_leads s _ = tt

set_asked_leads : (s : Session) (answer : Answer) → Leads (has_set_answered s answer) Before
set_asked_leads s (answers.HasSet false) = tt
set_asked_leads s (answers.HasSet true) = tt
set_asked_leads s _ = tt

offered_leads : (s : Session) (bits : List Bool) (answer : Answer) → Leads (offer_answered s bits answer) Before
offered_leads s bits (answers.Offer (Ok done)) =
    by_if (nat_le PART s.aim.size) (Ask asks.HasSet (has_set_answered (with_bits bits s))) (start_upload (with_bits bits s)) Before (λ answer. set_asked_leads (with_bits bits s) answer) tt
offered_leads s bits (answers.Offer (Err told)) = refused_leads (Read s) told tt
offered_leads s bits _ = tt

set_taken_leads : (s : Session) (answer : Answer) → Leads (hashes_answered s answer) Before
set_taken_leads s (answers.Hashes (Ok done)) = tt
set_taken_leads s (answers.Hashes (Err faults.AlreadySet)) = tt
set_taken_leads s (answers.Hashes (Err (faults.Set found))) = finish_leads (causes.BadSet found) (λ is. cc)
set_taken_leads s (answers.Hashes (Err told)) = refused_leads (Read s) told tt
set_taken_leads s _ = tt

no_file_leads : (s : Session) (hash : List ℕ) → Leads (no_file s hash) Before
no_file_leads s hash = by_if (is_ours s hash) (finish causes.NoFile) (Read s) Before (finish_leads causes.NoFile (λ is. cc)) tt

status_leads : (s : Session) (hash : List ℕ) (count : ℕ) (bits : List Bool) → Leads (file_status s hash count bits) Before
status_leads s hash count bits =
    let bits_named = has_parts s.aim.size count bits in
    let asked : Plan = Ask (asks.Offer bits_named) (offer_answered s bits_named) in
    by_if (is_ours s hash) (if is_count s count then asked else finish (causes.BadStatus count)) (Read s) Before
    (by_if (is_count s count) asked (finish (causes.BadStatus count)) Before (λ answer. offered_leads s bits_named answer) (finish_leads (causes.BadStatus count) (λ is. cc)))
    tt

row_leads : (at : Place) (s : Session) (msg : PeerMsg) → Leads (row_at at s msg) Before
row_leads places.Hello s (msgs.HelloAnswer hello) = tt
row_leads places.Hello s _ = tt
row_leads places.Status s (msgs.FileStatus hash count bits) = status_leads s hash count bits
row_leads places.Status s (msgs.NoFile hash) = no_file_leads s hash
row_leads places.Status s _ = tt
row_leads places.Set s (msgs.SetAnswer hash set) = by_if (is_ours s hash) (Ask (asks.Hashes set) (hashes_answered s)) (Read s) Before (λ answer. set_taken_leads s answer) tt
row_leads places.Set s (msgs.NoFile hash) = no_file_leads s hash
row_leads places.Set s _ = tt
row_leads places.Slot s msgs.Accept = λ answer. turn_leads s answer
row_leads places.Slot s (msgs.NoFile hash) = no_file_leads s hash
row_leads places.Slot s _ = tt
row_leads places.Pieces s (msgs.SendingPart hash start end piece) = by_if (is_ours s hash) (Ask (asks.Write start piece) (write_answered s)) (Read s) Before (λ answer. wrote_leads s answer) tt
row_leads places.Pieces s msgs.OutOfParts = λ answer. tt
row_leads places.Pieces s _ = tt

-- what an act makes of the way
abbrev next : Stage → Act → Stage
next Before (Asks ask answer new) = behind ask answer
next Refused (Asks ask answer new) = Freed
next Freed (Asks ask answer new) = Kept
next _ _ = Before

leads_after : (plan : Plan) (stage : Stage) (act : Act) → Leads plan stage → MayCome plan act → Leads (after plan act) (next stage act)
leads_after (Begin s) Before Begins leads fits = tt
leads_after (Begin s) Before _ leads fits = absurd fits
leads_after (Begin s) _ act leads fits = absurd leads
leads_after (Send msg rest) Before (Sends sent) leads fits = leads
leads_after (Send msg rest) Before (Breaks sent part cause) leads (said, breaks, front) = finish_leads cause (break_other cause breaks)
leads_after (Send msg rest) Before _ leads fits = absurd fits
leads_after (Send msg rest) _ act leads fits = absurd leads
leads_after (Ask ask follows) Before (Asks asked answer new) leads fits = subst (λ (a : DeskAsk). Leads (follows answer) (behind a answer)) (sym fits) (leads answer)
leads_after (Ask ask follows) Before _ leads fits = absurd fits
leads_after (Ask ask follows) _ act leads fits = absurd leads
leads_after (Last ask follows) Before (Asks asked answer new) leads fits = subst (λ (a : DeskAsk). Leads (follows answer) (behind a answer)) (sym fits) (leads answer)
leads_after (Last ask follows) Refused (Asks asked answer new) leads fits = leads.1 answer
leads_after (Last ask follows) Freed (Asks asked answer new) leads fits = leads.1 answer
leads_after (Last ask follows) Kept act leads fits = absurd leads
leads_after (Last ask follows) _ _ leads fits = absurd fits
leads_after (Read s) Before (Takes msg) leads fits = row_leads s.place s msg
leads_after (Read s) Before (Stops cause) leads fits = finish_leads cause (stop_other cause fits)
leads_after (Read s) Before _ leads fits = absurd fits
leads_after (Read s) _ act leads fits = absurd leads
leads_after (Paused s) Kept Begins leads fits = λ answer. turn_leads s answer
leads_after (Paused s) Kept _ leads fits = absurd fits
leads_after (Paused s) _ act leads fits = absurd leads
leads_after (Ended cause) stage act leads fits = absurd fits

-- the acts are the commit at the end, or the release and that
abbrev IsKept : List Act → Type 0
IsKept acts = (commit : Answer) × (kept : List Event) × (acts ≡ Asks asks.Commit commit kept ∷ [])

abbrev IsFreed : List Act → Type 0
IsFreed acts = (release : Answer) × (freed : List Event) × (commit : Answer) × (kept : List Event) × (acts ≡ Asks asks.Release release freed ∷ Asks asks.Commit commit kept ∷ [])

-- what the acts are to the end, on each step of the way
abbrev Comes : Stage → List Act → Type 0
Comes Before acts = Pauses acts
Comes Refused acts = Pauses acts ⊎ IsFreed acts
Comes Freed acts = Pauses acts ⊎ IsKept acts
Comes Kept acts = Pauses acts ⊎ (acts ≡ [])

at_end : (plan : Plan) (stage : Stage) → Leads plan stage → EndsWith plan causes.NoBlock → Comes stage []
at_end (Begin s) stage leads ends = absurd ends
at_end (Send msg rest) stage leads ends = absurd ends
at_end (Ask ask follows) stage leads ends = absurd ends
at_end (Last ask follows) stage leads ends = absurd ends
at_end (Read s) stage leads ends = absurd ends
at_end (Paused s) Kept leads ends = inr refl
at_end (Paused s) _ leads ends = absurd leads
at_end (Ended cause) Before leads ends = absurd (leads (sym ends))
at_end (Ended cause) Kept leads ends = absurd (leads (sym ends))
at_end (Ended cause) _ leads ends = absurd leads

back_asked : (ask : DeskAsk) (answer : Answer) (new : List Event) (acts : List Act) → Comes (behind ask answer) acts → Pauses (Asks ask answer new ∷ acts)
back_asked asks.Reserve (answers.Reserve (Err faults.NoBlock)) new acts comes = elim comes [
  | inl pauses ↦ one_more (Asks asks.Reserve (answers.Reserve (Err faults.NoBlock)) new) acts pauses
  | inr (release, freed, commit, kept, is) ↦ record {
    front = [];
    new = new;
    release = release;
    freed = freed;
    commit = commit;
    kept = kept;
    is = ap (λ more. Asks asks.Reserve (answers.Reserve (Err faults.NoBlock)) new ∷ more) is;
  }
]
back_asked ask answer new acts comes = one_more (Asks ask answer new) acts comes

back_before : (act : Act) (acts : List Act) → Comes (next Before act) acts → Pauses (act ∷ acts)
back_before (Asks ask answer new) acts comes = back_asked ask answer new acts comes
back_before Begins acts comes = one_more Begins acts comes
back_before (Sends msg) acts comes = one_more (Sends msg) acts comes
back_before (Breaks msg part cause) acts comes = one_more (Breaks msg part cause) acts comes
back_before (Takes msg) acts comes = one_more (Takes msg) acts comes
back_before (Stops cause) acts comes = one_more (Stops cause) acts comes

back_freed : (ask : DeskAsk) (answer : Answer) (new : List Event) (acts : List Act) → ask ≡ asks.Release → Comes Freed acts → Comes Refused (Asks ask answer new ∷ acts)
back_freed ask answer new acts is comes = elim comes [
  | inl pauses ↦ inl (one_more (Asks ask answer new) acts pauses)
  | inr (commit, kept, more) ↦ inr (answer, new, commit, kept, ap (λ a. Asks a answer new ∷ acts) is ∙ ap (λ rest. Asks asks.Release answer new ∷ rest) more)
]

back_kept : (ask : DeskAsk) (answer : Answer) (new : List Event) (acts : List Act) → ask ≡ asks.Commit → Comes Kept acts → Comes Freed (Asks ask answer new ∷ acts)
back_kept ask answer new acts is comes = elim comes [
  | inl pauses ↦ inl (one_more (Asks ask answer new) acts pauses)
  | inr more ↦ inr (answer, new, ap (λ a. Asks a answer new ∷ acts) is ∙ ap (λ rest. Asks asks.Commit answer new ∷ rest) more)
]

back : (plan : Plan) (stage : Stage) (act : Act) (acts : List Act) → Leads plan stage → MayCome plan act → Comes (next stage act) acts → Comes stage (act ∷ acts)
back plan Before act acts leads fits comes = back_before act acts comes
back (Last ask follows) Refused (Asks asked answer new) acts leads fits comes = back_freed asked answer new acts (fits ∙ leads.0) comes
back (Last ask follows) Freed (Asks asked answer new) acts leads fits comes = back_kept asked answer new acts (fits ∙ leads.0) comes
back (Last ask follows) Kept act acts leads fits comes = absurd leads
back (Last ask follows) _ act acts leads fits comes = absurd fits
back (Paused s) Kept Begins acts leads fits comes = inl (one_more Begins acts comes)
back (Paused s) Kept _ acts leads fits comes = absurd fits
back (Ended cause) Kept act acts leads fits comes = absurd fits
back _ _ act acts leads fits comes = absurd leads

walk : (plan : Plan) (stage : Stage) (to : Plan) (acts : List Act) → Leads plan stage → Run plan acts to → EndsWith to causes.NoBlock → Comes stage acts
walk plan stage to [] leads run ends = at_end plan stage leads (subst (λ q. EndsWith q causes.NoBlock) (sym run) ends)
walk plan stage to (act ∷ acts) leads (fits, run) ends = back plan stage act acts leads fits (walk (after plan act) (next stage act) to acts (leads_after plan stage act leads fits) run ends)

call_pauses : (plan to : Plan) (acts : List Act) → BeginsFirst acts → Run plan acts to → EndsWith to causes.NoBlock → Pauses acts
call_pauses (Begin s) to (Begins ∷ acts) first (fits, run) ends = one_more Begins acts (walk (start s) Before to acts tt run ends)
call_pauses (Paused s) to (Begins ∷ acts) first (fits, run) ends = one_more Begins acts (walk (turn s) Before to acts (λ answer. turn_leads s answer) run ends)
call_pauses _ to (Begins ∷ acts) first (fits, run) ends = absurd fits
call_pauses plan to _ first run ends = absurd first

-- the first act of a talk that begins a session
pub begins_first : (plan to : Plan) (acts : List Act) (s : Session) → plan ≡ Begin s → Run plan acts to → EndsWith to causes.NoBlock → BeginsFirst acts
begins_first plan to acts s is run ends = from_begin acts (subst (λ q. Run q acts to) is run)
  where
    from_begin : (acts : List Act) → Run (Begin s) acts to → BeginsFirst acts
    from_begin [] run = absurd (subst (λ q. EndsWith q causes.NoBlock) (sym run) ends)
    from_begin (Begins ∷ acts) run = tt
    from_begin (_ ∷ acts) (fits, run) = absurd fits

pub pauses : (aim : Aim) (p : ℕ) (from to : Due) (old new : Outside) (before now : Inside) →
    (talk : Talk aim p (standing from old before) (standing to new now) causes.NoBlock) → BeginsFirst talk.acts → Pauses talk.acts
pauses aim p from to old new before now talk first = call_pauses from.plan to.plan talk.acts first talk.runs talk.ends

-- ---- the log at that refusal

chained_front : (aim : Aim) (p : ℕ) (h now : List Event) (acts more : List Act) → Chained aim p h (acts ++ more) now → Chained aim p (h ++ added acts) more now
chained_front aim p h now [] more chained = subst (λ log. Chained aim p log more now) (sym (append-nil h)) chained
chained_front aim p h now (Begins ∷ acts) more chained = chained_front aim p h now acts more chained
chained_front aim p h now (Sends msg ∷ acts) more chained = chained_front aim p h now acts more chained
chained_front aim p h now (Breaks msg part cause ∷ acts) more chained = chained_front aim p h now acts more chained
chained_front aim p h now (Asks ask answer new ∷ acts) more (answered, chained) =
    subst (λ log. Chained aim p log more now) (append_assoc h new (added acts)) (chained_front aim p (h ++ new) now acts more chained)
chained_front aim p h now (Takes msg ∷ acts) more chained = chained_front aim p h now acts more chained
chained_front aim p h now (Stops cause ∷ acts) more chained = chained_front aim p h now acts more chained

-- The log grew from one to the other, and between them stands a reserve that was refused because nothing was
-- left: what the calls before it added, which is told, and then at most a release and a commit.
pub record PausesAt (aim : Aim) (p : ℕ) (h more now : List Event) : Type 0 where
  pub refused : refusal aim (h ++ more) (event.Reserve p (pick_of aim.size (h ++ more) p)) ≡ Some faults.NoBlock
  pub freed : List Event
  pub frees : (freed ≡ release_events (h ++ more) p) ⊎ (freed ≡ [])
  pub kept : List Event
  pub keeps : (kept ≡ committed_by ((h ++ more) ++ freed)) ⊎ (kept ≡ [])
  pub log : now ≡ ((h ++ more) ++ freed) ++ kept

inside_told : (cause : Option DeskFault) → IsRefused cause faults.NoBlock → cause ≡ Some faults.NoBlock
inside_told cause told = elim told [ inl outside ↦ absurd (cc) | inr is ↦ is ]

-- what the end of such a talk is over a log
record EndsAt (aim : Aim) (p : ℕ) (here : List Event) (release commit : Answer) (freed kept now : List Event) : Type 0 where
  released : Answered aim p here asks.Release release freed
  committed : Answered aim p (here ++ freed) asks.Commit commit kept
  log : now ≡ (here ++ freed) ++ kept

pauses_in : (aim : Aim) (p : ℕ) (h now : List Event) (acts : List Act) (found : Pauses acts) → Chained aim p h acts now → (found.new ≡ []) × PausesAt aim p h (added found.front) now
pauses_in aim p h now acts found chained =
    let here = h ++ added found.front in
    let end = Asks asks.Reserve (answers.Reserve (Err faults.NoBlock)) found.new ∷ Asks asks.Release found.release found.freed ∷ Asks asks.Commit found.commit found.kept ∷ [] in
    let there : Chained aim p here end now = chained_front aim p h now found.front end (subst (λ all. Chained aim p h all now) found.is chained) in
    let none : found.new ≡ [] = there.0.0.1 in
    let ends : EndsAt aim p (here ++ found.new) found.release found.commit found.freed found.kept now = record { released = there.1.0; committed = there.1.1.0; log = there.1.1.1 } in
    let same : EndsAt aim p here found.release found.commit found.freed found.kept now =
    subst (λ log. EndsAt aim p log found.release found.commit found.freed found.kept now) (nothing_more here found.new none) ends in (
      none,
      record {
        refused = inside_told (refusal aim here (event.Reserve p (pick_of aim.size here p))) there.0.0.0;
        freed = found.freed;
        frees = frees aim p here found.release found.freed same.released;
        kept = found.kept;
        keeps = keeps aim p (here ++ found.freed) found.commit found.kept same.committed;
        log = same.log;
      },
    )

-- such a talk over a desk that nobody else uses
pub pauses_at : (aim : Aim) (p : ℕ) (from to : Due) (old new : Outside) (before now : Inside) →
    (talk : Talk aim p (standing from old before) (standing to new now) causes.NoBlock) → BeginsFirst talk.acts → IsTrue before.alone →
    (found : Pauses talk.acts) × (found.new ≡ []) × PausesAt aim p before.log (added found.front) now.log
pauses_at aim p from to old new before now talk first alone =
    let found = pauses aim p from to old new before now talk first in
    let there = pauses_in aim p before.log now.log talk.acts found (talk.chained alone) in
    (found, there.0, there.1)

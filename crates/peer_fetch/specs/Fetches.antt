-- What a call of a session does over a wire and a desk.
use Rattle.std.specs.Prelude.{◌≡◌, ◌⊎◌, ℕ, ◌+◌, ◌≤◌, Bool, false, Ok, List, [], ◌∷◌, ◌++◌, length, Option, None, IsTrue}
use Rattle.std.specs.List.{filter}
use Rattle.std.specs.Io.KnownBytes.{append_known}
use Rattle.ed2k_outside.specs.Causes.{IfKnown}
use Rattle.part_hashset.specs.declared.aim.Aim.{Aim}
use Rattle.reserve_core.specs.Desk.{Answered, AreTrue, LaysBody, is_own, own}
use Rattle.reserve_core.specs.DeskState.{DeskState}
use Rattle.reserve_core.specs.Events.{events}
use Rattle.reserve_core.specs.declared.desk.Answer.{Answer}
use Rattle.reserve_core.specs.declared.desk.Answer.TheVariants as answer
use Rattle.reserve_core.specs.declared.desk.DeskAsk.{DeskAsk}
use Rattle.reserve_core.specs.declared.desk.DeskAsk.TheVariants as ask
use Rattle.reserve_core.specs.declared.event.Event.{Event}
use Rattle.peer_fetch.specs.Machine.{Gives, begun, due}
use Rattle.peer_fetch.specs.Moves.{Draws, Outside, bytes_to_come}
use Rattle.peer_fetch.specs.Plan.{Plan, Paused, Ended}
use Rattle.peer_fetch.specs.Talk.{Act, Asks, BeginsFirst, Run, Reads, heard, spelled, added}
use Rattle.peer_fetch.specs.Within.{ReadsWithin}
use Rattle.peer_fetch.specs.declared.cause.Cause.{Cause}
use Rattle.peer_fetch.specs.declared.cause.Cause.TheVariants as causes
use Rattle.peer_fetch.specs.declared.machine.SessionState.{SessionState}
use Rattle.peer_fetch.specs.declared.machine.Next.{Next}
use Rattle.peer_fetch.specs.declared.peer_end.PeerEnd.{PeerEnd}
use Rattle.peer_fetch.specs.declared.session.Session.{Session}

-- The answer to a call of the desk is the one at a place of the log, at or behind a first place, and what the
-- call added stands right there; the next place is behind that.
pub record AnsweredAt (aim : Aim) (p : ℕ) (h : List Event) (place next : ℕ) (ask : DeskAsk) (answer : Answer) (new : List Event) : Type 0 where
  pub before : List Event
  pub later : List Event
  pub log : h ≡ (before ++ new) ++ later
  pub behind : place ≤ length before
  pub then : next ≡ length (before ++ new)
  pub answered : Answered aim p before ask answer new

-- each answer is that of the log, and their places only move forward, from the first to the last
abbrev pub InLog : Aim → ℕ → List Event → ℕ → ℕ → List Act → Type 0
InLog aim p h place last [] = place ≡ last
InLog aim p h place last (Asks ask answer new ∷ acts) = (next : ℕ) × AnsweredAt aim p h place next ask answer new × InLog aim p h next last acts
InLog aim p h place last (_ ∷ acts) = InLog aim p h place last acts

-- the bits of an offer that the desk took, and else those before
abbrev pub offered_in : DeskAsk → Answer → List Bool → List Bool
offered_in (ask.Offer bits) (answer.Offer (Ok done)) before = bits
offered_in _ _ before = before

-- the newest offer among the acts, and where there is none what was offered before
abbrev pub newest : List Bool → List Act → List Bool
newest before [] = before
newest before (Asks ask answer new ∷ acts) = newest (offered_in ask answer before) acts
newest before (_ ∷ acts) = newest before acts

-- what stands inside: the log that was seen, whether nobody else uses the file, and the bytes of its body,
-- where they are told and nobody else writes them
pub record Inside : Type 0 where
  pub log : List Event
  pub alone : Bool
  pub body : Option (List ℕ)

-- what stands inside of a desk
abbrev pub inside : DeskState → Inside
inside desk = record { log = events desk.seen; alone = desk.alone; body = desk.body }

-- the same, of what tells a desk's state
abbrev pub inside_by : {D : Type 0} → (D → DeskState) → D → Inside
inside_by state desk = inside (state desk)

-- what is due, and what the peer offered so far
pub record Due : Type 0 where
  pub plan : Plan
  pub offered : List Bool

-- what is due in a session where nothing was asked
abbrev pub due_now : Session → SessionState → Due
due_now session at = record { plan = due session at; offered = session.offered }

-- what is due in it as a call begins
abbrev pub due_in_call : Session → SessionState → Due
due_in_call session at = record { plan = begun (due session at); offered = session.offered }

-- where a session stands: what is due, and what stands outside and inside of it
pub record Standing : Type 0 where
  pub due : Due
  pub outside : Outside
  pub inside : Inside

abbrev pub standing : Due → Outside → Inside → Standing
standing due outside inside = record { due = due; outside = outside; inside = inside }

-- where nobody else uses the file, each answer follows right on what the calls before it added
abbrev pub Chained : Aim → ℕ → List Event → List Act → List Event → Type 0
Chained aim p h [] now = now ≡ h
Chained aim p h (Asks ask answer new ∷ acts) now = Answered aim p h ask answer new × Chained aim p (h ++ new) acts now
Chained aim p h (_ ∷ acts) now = Chained aim p h acts now

-- a write lays its piece over the body, and each verdict is the MD4 of its part's bytes as they are then
abbrev pub LaysPieces : List ℕ → List Act → List ℕ → Type 0
LaysPieces body [] now = now ≡ body
LaysPieces body (Asks ask answer new ∷ acts) now = AreTrue body new × (mid : List ℕ) × LaysBody ask answer body mid × LaysPieces mid acts now
LaysPieces body (_ ∷ acts) now = LaysPieces body acts now

-- the log is the one before, and then more
abbrev pub Grows : List Event → List Event → Type 0
Grows before now = (more : List Event) × (now ≡ before ++ more)

-- the body is what the acts laid, where it is told
abbrev pub LaysIn : List Act → Option (List ℕ) → Option (List ℕ) → Type 0
LaysIn acts before now = IfKnown (λ body body_now. LaysPieces body acts body_now) before now

-- The session went from what was due to what the machine gives now.
pub record Fetches (budget : ℕ) (aim : Aim) (p : ℕ) (from : Due) (old new : Outside) (before now : Inside) (given : Next) (session : Session) (at : SessionState) : Type 0 where
  pub acts : List Act
  pub end : Plan
  pub runs : Run from.plan acts end
  pub gives : Gives end given session at
  pub reads : ReadsWithin (bytes_to_come budget old) (bytes_to_come budget new) acts old.ahead new.ahead
  pub fewer : bytes_to_come budget new + heard acts ≤ bytes_to_come budget old
  pub draws : Draws old new
  pub sends : new.sent ≡ append_known old.sent (spelled acts)
  pub in_log : InLog aim p now.log (length before.log) (length now.log) acts
  pub grows : Grows before.log now.log
  pub own_events : own now.log p ≡ own before.log p ++ filter (is_own p) (added acts)
  pub chained : IsTrue before.alone → Chained aim p before.log acts now.log
  pub lays : LaysIn acts before.body now.body
  pub offers : session.offered ≡ newest from.offered acts

-- a call ends with what is due
abbrev pub EndsWith : Plan → Cause → Type 0
EndsWith (Paused s) cause = cause ≡ causes.NoBlock
EndsWith (Ended found) cause = cause ≡ found
EndsWith _ cause = ⊥

-- The talk of a call. Its acts go along the table, from what was due to an end with this cause; the messages
-- that it took stand in front of the bytes ahead, and what it sent are exactly its messages; the desk
-- answered by the log, which only grew, and of the peer's own events the log has exactly what its calls added.
-- Where nobody else uses the file the log has nothing but what they added, and where the body is told it is
-- what they laid. What the peer offers is its newest offer.
pub record Talk (aim : Aim) (p : ℕ) (old new : Standing) (cause : Cause) : Type 0 where
  pub acts : List Act
  pub place : ℕ
  pub runs : Run old.due.plan acts new.due.plan
  pub ends : EndsWith new.due.plan cause
  pub reads : Reads acts old.outside.ahead new.outside.ahead
  pub sends : new.outside.sent ≡ append_known old.outside.sent (spelled acts)
  pub in_log : InLog aim p new.inside.log (length old.inside.log) place acts
  pub within : place ≤ length new.inside.log
  pub grows : Grows old.inside.log new.inside.log
  pub own_events : own new.inside.log p ≡ own old.inside.log p ++ filter (is_own p) (added acts)
  pub chained : IsTrue old.inside.alone → Chained aim p old.inside.log acts new.inside.log
  pub lays : LaysIn acts old.inside.body new.inside.body
  pub offers : new.due.offered ≡ newest old.due.offered acts

-- what stands inside, of which only the log is told
abbrev pub log_alone : List Event → Inside
log_alone h = record { log = h; alone = false; body = None }

-- the same standing, of whose inside only this log is told
abbrev pub over_log : List Event → Standing → Standing
over_log h at = standing at.due at.outside (log_alone h)

-- a talk over a log is one over a longer log that has no more of the peer's own events
abbrev pub TalkStands : Type 0
TalkStands =
    (aim : Aim) (p : ℕ) (old new : Standing) (more : List Event) (cause : Cause) →
    Talk aim p old new cause → own (new.inside.log ++ more) p ≡ own new.inside.log p →
    Talk aim p (over_log old.inside.log old) (over_log (new.inside.log ++ more) new) cause

-- A talk that ended because nothing was left to reserve, and the one that goes on with it, are one talk, also
-- where others added to the log between them.
abbrev pub TalksJoin : Type 0
TalksJoin =
    (aim : Aim) (p : ℕ) (first paused last : Standing) (more : List Event) (again : Inside) (cause : Cause) →
    Talk aim p first paused causes.NoBlock → again.log ≡ paused.inside.log ++ more → own again.log p ≡ own paused.inside.log p →
    Talk aim p (standing paused.due paused.outside again) last cause →
    Talk aim p (over_log first.inside.log first) (over_log last.inside.log last) cause

-- the cause is told, unless no memory is there for what is told beside it
abbrev pub IsToldAs : Cause → Cause → Type 0
IsToldAs cause told = (told ≡ cause) ⊎ (told ≡ causes.NoMemory)

-- What a call did: a talk that begins with it, and the cause that is told of it. Each message that it took, and
-- what stopped it, stand within what the budget lets it read, and a message leaves fewer bytes to be read. Of a
-- wire that tells its bytes no more is taken than it has.
pub record Called (budget : ℕ) (aim : Aim) (p : ℕ) (old new : Standing) (told : Cause) : Type 0 where
  pub cause : Cause
  pub talk : Talk aim p old new cause
  pub begins : BeginsFirst talk.acts
  pub told_as : IsToldAs cause told
  pub within : ReadsWithin (bytes_to_come budget old.outside) (bytes_to_come budget new.outside) talk.acts old.outside.ahead new.outside.ahead
  pub fewer : bytes_to_come budget new.outside + heard talk.acts ≤ bytes_to_come budget old.outside
  pub draws : Draws old.outside new.outside

-- What became of a peer in a call. It offered what its session kept, and where a later call may go on, it begins
-- with what is due at the end of this one.
pub record Fetched (budget : ℕ) (aim : Aim) (p : ℕ) (old new : Standing) (met : PeerEnd) : Type 0 where
  pub to : Due
  pub called : Called budget aim p old (standing to new.outside new.inside) met.cause
  pub offered : met.offered ≡ to.offered
  pub goes_on : IsTrue met.alive → to ≡ new.due

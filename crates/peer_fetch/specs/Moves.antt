-- What a session does over a wire, between two calls of the desk.
use Rattle.std.specs.Prelude.{◌≡◌, ◌≢◌, ℕ, ◌+◌, ◌*◌, ◌-◌, ◌<◌, ◌≤◌, max, List, [], ◌∷◌, length, Option, Some, None, Result, Ok, Err, IfSome, IsFalse, IsSome, IsTrue, ◌⊎◌}
use Rattle.std.specs.Io.KnownBytes.{prepend_known, append_known}
use Rattle.client_msgs.specs.Spelling.{spell_msg}
use Rattle.client_msgs.specs.declared.fault.MsgFault.{MsgFault}
use Rattle.client_msgs.specs.declared.fault.MsgFault.TheVariants as msg_fault
use Rattle.client_msgs.specs.declared.msg.PeerMsg.{PeerMsg}
use Rattle.client_msgs.specs.Reading.{message}
use Rattle.ed2k_frame.specs.Frame.{spell}
use Rattle.ed2k_frame.specs.Front.{IsPartial, IsFaultAt}
use Rattle.ed2k_frame.specs.declared.frame.Frame.{Frame}
use Rattle.ed2k_frame.specs.declared.frame.TheConstants.{FRAME_LIMIT}
use Rattle.ed2k_frame.specs.declared.fault.FrameFault.{FrameFault}
use Rattle.ed2k_frame.specs.declared.fault.FrameFault.TheVariants as frame_fault
use Rattle.ed2k_outside.specs.Causes.{IfKnown, Rose}
use Rattle.reserve_core.specs.declared.desk.Answer.{Answer}
use Rattle.peer_fetch.specs.Machine.{Gives, MaySay, begun, cause_of, due, entered, is_at_end, is_released, is_refusal, offered_by, rank}
use Rattle.peer_fetch.specs.Plan.{Plan}
use Rattle.framed_wire.specs.Sending.{IsFront}
use Rattle.peer_fetch.specs.Talk.{Act, Begins, Asks, Run, Comes, IsStop, IsBreak, Leaves, heard, spelled}
use Rattle.ed2k_outside.specs.WireMembers.{WireMembers}
use Rattle.peer_fetch.specs.Within.{ReadsWithin, StopsWithin}
use Rattle.peer_fetch.specs.declared.cause.Cause.{Cause}
use Rattle.peer_fetch.specs.declared.cause.Cause.TheVariants as causes
use Rattle.peer_fetch.specs.declared.link.LinkCore.{LinkCore}
use Rattle.peer_fetch.specs.declared.link.TheConstants.{PIECE}
use Rattle.peer_fetch.specs.declared.link.Step.{Step}
use Rattle.peer_fetch.specs.declared.link.Step.TheVariants as step
use Rattle.peer_fetch.specs.declared.machine.SessionState.{SessionState}
use Rattle.peer_fetch.specs.declared.machine.Next.{Next}
use Rattle.peer_fetch.specs.declared.machine.Next.TheVariants as next
use Rattle.peer_fetch.specs.declared.session.Session.{Session}

-- what stands outside of a session: the bytes ahead, in the reader and then on the wire, and the bytes sent,
-- where the wire tells them; how often it failed; how many bytes were taken of it, and those of these that the
-- reader still has
pub record Outside : Type 0 where
  pub ahead : Option (List ℕ)
  pub sent : Option (List ℕ)
  pub read_faults : ℕ
  pub write_faults : ℕ
  pub taken : ℕ
  pub unread : List ℕ

abbrev pub outside : {W : Type 0} → WireMembers W → LinkCore W → Outside
outside w link = record {
  ahead = prepend_known link.reader.rest (w.left link.wire);
  sent = w.sent link.wire;
  read_faults = w.read_faults link.wire;
  write_faults = w.write_faults link.wire;
  taken = link.taken;
  unread = link.reader.rest;
}

-- a session as its link knows it: how far it has come, and what stands outside of it
pub record LinkState : Type 0 where
  pub session : Session
  pub at : SessionState
  pub outside : Outside

abbrev pub link_state : Session → SessionState → Outside → LinkState
link_state session at outside = record { session = session; at = at; outside = outside }

abbrev pub state_of : {W : Type 0} → WireMembers W → LinkCore W → LinkState
state_of m link = link_state link.core.session link.core.at (outside m link)

-- what a session took of its wire and didn't go through is less than a frame, and what one read took
abbrev pub IsShort : Outside → Type 0
IsShort o = length o.unread ≤ 4 + FRAME_LIMIT + PIECE

-- how many bytes may still be read as messages
abbrev pub bytes_to_come : ℕ → Outside → ℕ
bytes_to_come budget o = (budget - o.taken) + length o.unread

-- The bytes that were taken of the wire and those left on it are together as many as before, where it tells
-- them: it has exactly so many less as were taken.
abbrev pub Draws : Outside → Outside → Type 0
Draws old new = IfKnown (λ bytes bytes_now. new.taken + (length bytes_now - length new.unread) ≡ old.taken + (length bytes - length old.unread)) old.ahead new.ahead

-- how much a session may still do between two calls of the desk
abbrev pub turns : ℕ → Next → Outside → SessionState → ℕ
turns budget (next.Ask ask) o at = 0
turns budget (next.End cause) o at = 0
turns budget _ o at = 16 * bytes_to_come budget o + rank at + 1

-- how much a session may still do
abbrev pub weight : ℕ → Outside → SessionState → ℕ
weight budget o at = 16 * bytes_to_come budget o + rank at

-- what a fault of a frame or a message is to a session
abbrev pub frame_cause : FrameFault → Cause
frame_cause frame_fault.NoMemory = causes.NoMemory
frame_cause fault = causes.BadFrame fault

abbrev pub msg_cause : MsgFault → Cause
msg_cause msg_fault.NoMemory = causes.NoMemory
msg_cause fault = causes.BadMsg fault

-- the message that a frame is, or why it is none
abbrev pub IsMessage : Result PeerMsg Cause → Frame → Type 0
IsMessage (Ok msg) frame = message frame ≡ Ok msg
IsMessage (Err cause) frame = (fault : MsgFault) × (cause ≡ msg_cause fault) × (fault ≢ msg_fault.NoMemory → message frame ≡ Err fault)

-- Reading sends nothing, and takes no byte of the wire once the budget is used up.
pub record Looks (budget : ℕ) (old new : Outside) : Type 0 where
  pub sent : new.sent ≡ old.sent
  pub write_faults : new.write_faults ≡ old.write_faults
  pub read_faults : old.read_faults ≤ new.read_faults
  pub taken : old.taken ≤ new.taken
  pub within : new.taken ≤ max old.taken budget
  pub fewer : bytes_to_come budget new ≤ bytes_to_come budget old
  pub short : IsShort old → IsShort new

-- Bytes were taken of the wire, and as many may be read as before.
pub record TakesSome (budget : ℕ) (old new : Outside) : Type 0 where
  pub room : bytes_to_come budget new ≡ bytes_to_come budget old
  pub ahead : new.ahead ≡ old.ahead
  pub takes : budget - new.taken < budget - old.taken

-- Why reading stops: the wire failed in a read that the budget allowed; the bytes ended in one; a fault stands in
-- front of the bytes that were taken; as many as the budget were, and less than a frame of them is unread.
pub record StopsBy (budget : ℕ) (cause : Cause) (old new : Outside) : Type 0 where
  pub stops : IsStop cause
  pub stands : IfSome old.ahead (StopsWithin (bytes_to_come budget old) cause)
  pub wire : cause ≡ causes.WireFault → Rose old.read_faults new.read_faults × (new.taken < budget)
  pub ended : cause ≡ causes.Ended → (new.taken < budget) × IsPartial new.unread
  pub frame : (fault : FrameFault) → cause ≡ causes.BadFrame fault → IsFaultAt fault new.unread
  pub spent : cause ≡ causes.Spent → (budget ≤ new.taken) × IsPartial new.unread
  pub leaves : Leaves cause old.ahead new.ahead

-- A message came, or this stopped it.
abbrev pub Receives : ℕ → Result PeerMsg Cause → Outside → Outside → Type 0
Receives budget (Ok msg) old new =
    (comes : Comes msg old.ahead new.ahead) × (bytes_to_come budget old ≡ bytes_to_come budget new + length (spell comes.frame)) × (bytes_to_come budget new < bytes_to_come budget old)
Receives budget (Err cause) old new = StopsBy budget cause old new

-- Sending takes nothing.
pub record SendsOnly (old new : Outside) : Type 0 where
  pub ahead : new.ahead ≡ old.ahead
  pub read_faults : new.read_faults ≡ old.read_faults
  pub write_faults : old.write_faults ≤ new.write_faults
  pub taken : new.taken ≡ old.taken
  pub unread : new.unread ≡ old.unread

-- Only a front of the bytes was sent, since the wire failed or memory was wanted.
pub record SendsPart (bytes : List ℕ) (cause : Cause) (old new : Outside) : Type 0 where
  pub part : List ℕ
  pub front : IsFront part bytes
  pub sent : new.sent ≡ append_known old.sent part
  pub breaks : IsBreak cause
  pub wire : cause ≡ causes.WireFault → Rose old.write_faults new.write_faults

abbrev pub SendsMsg : PeerMsg → Result (Unit {0}) Cause → Outside → Outside → Type 0
SendsMsg msg (Ok done) old new = new.sent ≡ append_known old.sent (spell_msg msg)
SendsMsg msg (Err cause) old new = SendsPart (spell_msg msg) cause old new

-- What stopped a session: the wire failed in a write, or in a read that the budget allowed; the bytes ended in
-- a read that it allowed; a fault stands in front of the bytes that were taken; as many as the budget were taken
-- and less than a frame of them is unread; the desk's store failed, so its count isn't 0. It never had no
-- connection.
pub record IsBlamed (budget faults : ℕ) (cause : Cause) (old new : Outside) : Type 0 where
  pub wire : cause ≡ causes.WireFault → Rose old.write_faults new.write_faults ⊎ (Rose old.read_faults new.read_faults × (new.taken < budget))
  pub ended : cause ≡ causes.Ended → (new.taken < budget) × IsPartial new.unread
  pub frame : (fault : FrameFault) → cause ≡ causes.BadFrame fault → IsFaultAt fault new.unread
  pub spent : cause ≡ causes.Spent → (budget ≤ new.taken) × IsPartial new.unread
  pub store : cause ≡ causes.StoreFault → 0 < faults
  pub linked : cause ≢ causes.NoLink

-- A session that nothing was taken for ends with Spent only where as many bytes as the budget were ahead.
abbrev pub SpentNeeds : Type 0
SpentNeeds =
    (budget faults : ℕ) (old new : Outside) (stream : List ℕ) → old.taken ≡ 0 → old.ahead ≡ Some stream →
    Draws old new → IsBlamed budget faults causes.Spent old new → budget ≤ length stream

-- No count falls, no byte is taken of the wire once the budget is used up, and few are taken ahead.
pub record Later (budget : ℕ) (old new : Outside) : Type 0 where
  pub read_faults : old.read_faults ≤ new.read_faults
  pub write_faults : old.write_faults ≤ new.write_faults
  pub taken : old.taken ≤ new.taken
  pub within : new.taken ≤ max old.taken budget
  pub short : IsShort old → IsShort new

-- what stops a session for good is seen outside
abbrev pub Blames : ℕ → ℕ → Option Cause → Outside → Outside → Type 0
Blames budget faults found old new = IfSome found (λ cause. IsBlamed budget faults cause old new × (cause ≢ causes.NoBlock))

pub record Sees (budget faults : ℕ) (old new : Outside) (at : SessionState) : Type 0 where
  pub later : Later budget old new
  pub blames : Blames budget faults (cause_of at) old new

-- what is said of one turn goes on with whatever came before it
abbrev pub SeesOn : ℕ → Outside → Outside → SessionState → Type 0
SeesOn budget old new at = (faults : ℕ) (first : Outside) → Later budget first old → Sees budget faults first new at

-- where the desk answers that its store failed, its count isn't 0
abbrev pub CountsRefusal : Option Answer → ℕ → Type 0
CountsRefusal None faults = Unit {0}
CountsRefusal (Some answer) faults = IsTrue (is_refusal answer) → 0 < faults

abbrev pub SeesAfter : ℕ → Option Answer → Outside → SessionState → Outside → SessionState → Type 0
SeesAfter budget answer old at new at2 =
    (faults : ℕ) (first : Outside) → CountsRefusal answer faults → Sees budget faults first old at → Sees budget faults first new at2

-- no call of the desk and no begin of a call is among the acts
abbrev pub AreOfTheWire : List Act → Type 0
AreOfTheWire [] = Unit {0}
AreOfTheWire (Begins ∷ acts) = ⊥
AreOfTheWire (Asks ask answer added ∷ acts) = ⊥
AreOfTheWire (act ∷ acts) = AreOfTheWire acts

-- The session went from what was due to what the machine gives now.
pub record Moves (budget : ℕ) (from : Plan) (old : Outside) (new : LinkState) (given : Next) : Type 0 where
  pub acts : List Act
  pub end : Plan
  pub runs : Run from acts end
  pub gives : Gives end given new.session new.at
  pub of_the_wire : AreOfTheWire acts
  pub reads : ReadsWithin (bytes_to_come budget old) (bytes_to_come budget new.outside) acts old.ahead new.outside.ahead
  pub fewer : bytes_to_come budget new.outside + heard acts ≤ bytes_to_come budget old
  pub draws : Draws old new.outside
  pub sends : new.outside.sent ≡ append_known old.sent (spelled acts)

-- what is said of one turn goes on with whatever came before it
abbrev pub MovesOn : ℕ → Next → LinkState → Next → LinkState → Type 0
MovesOn budget given old given2 new =
    (from : Plan) (first : Outside) → Moves budget from first old given → Moves budget from first new given2

-- A turn over the wire: what was given was done, and this is given next. Fewer turns are to come.
pub record TakesTurn (budget : ℕ) (done : Next) (old new : LinkState) (given : Next) : Type 0 where
  pub moves : MovesOn budget done old given new
  pub aim : new.session.aim ≡ old.session.aim
  pub may : MaySay old.session.aim given new.at
  pub on : IsFalse (is_released new.at)
  pub offers : new.session.offered ≡ old.session.offered
  pub sees : SeesOn budget old.outside new.outside new.at
  pub light : weight budget new.outside new.at ≤ 16 * bytes_to_come budget old.outside + 2
  pub fewer : bytes_to_come budget new.outside ≤ bytes_to_come budget old.outside
  pub turns : turns budget given new.outside new.at < turns budget done old.outside old.at

-- a call of the session began, and this is given first
pub record BeginsCall (budget : ℕ) (old new : LinkState) (given : Next) : Type 0 where
  pub moves : Moves budget (begun (due old.session old.at)) old.outside new given
  pub aim : new.session.aim ≡ old.session.aim
  pub may : MaySay old.session.aim given new.at
  pub on : IsFalse (is_released new.at)
  pub offers : new.session.offered ≡ old.session.offered
  pub sees : SeesOn budget old.outside new.outside new.at

-- the answer was taken, or a call began where there was none, and this is given next
pub record Enters (budget : ℕ) (answer : Option Answer) (old new : LinkState) (given : Next) : Type 0 where
  pub moves : Moves budget (entered old.session old.at answer) old.outside new given
  pub aim : new.session.aim ≡ old.session.aim
  pub may : MaySay old.session.aim given new.at
  pub free : IsTrue (is_released new.at) → IsTrue (is_at_end old.at)
  pub offers : new.session.offered ≡ offered_by old.session.offered old.at answer
  pub sees : SeesAfter budget answer old.outside old.at new.outside new.at

-- less is to come than before the answer
abbrev pub IsLighter : ℕ → Option Answer → LinkState → LinkState → Type 0
IsLighter budget answer old new = IsSome answer → weight budget new.outside new.at < weight budget old.outside old.at

-- a step as what the machine gave
abbrev pub as_next : Step → Next
as_next (step.Ask ask) = next.Ask ask
as_next (step.End cause) = next.End cause

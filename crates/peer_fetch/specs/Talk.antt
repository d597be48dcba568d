-- A talk of a session: what it did, act by act, along its table.
use Rattle.std.specs.Prelude.{◌≡◌, ℕ, ◌+◌, List, [], ◌∷◌, ◌++◌, Option, Err, Ok, IfSome}
use Rattle.std.specs.Io.KnownBytes.{prepend_known}
use Rattle.framed_wire.specs.Sending.{IsFront}
use Rattle.client_msgs.specs.Reading.{message}
use Rattle.client_msgs.specs.Spelling.{spell_msg}
use Rattle.client_msgs.specs.declared.fault.MsgFault.{MsgFault}
use Rattle.client_msgs.specs.declared.msg.PeerMsg.{PeerMsg}
use Rattle.ed2k_frame.specs.Frame.{IsFrame, spell}
use Rattle.ed2k_frame.specs.Front.{IsFrameAt, IsPartial, IsFaultAt}
use Rattle.ed2k_frame.specs.declared.frame.Frame.{Frame}
use Rattle.reserve_core.specs.declared.desk.Answer.{Answer}
use Rattle.reserve_core.specs.declared.desk.DeskAsk.{DeskAsk}
use Rattle.reserve_core.specs.declared.event.Event.{Event}
use Rattle.peer_fetch.specs.Plan.{Plan, Begin, Send, Ask, Last, Read, Paused}
use Rattle.peer_fetch.specs.Table.{finish, row, start, turn}
use Rattle.peer_fetch.specs.declared.cause.Cause.{Cause}
use Rattle.peer_fetch.specs.declared.cause.Cause.TheVariants as cause

pub data Act : Type 0 where
  -- a call of the session begins
  Begins : Act
  -- this message is sent
  Sends : PeerMsg → Act
  -- of this message only these bytes are sent, and this stops the session
  Breaks : PeerMsg → List ℕ → Cause → Act
  -- the desk is asked and answers, and adds these events to the log
  Asks : DeskAsk → Answer → List Event → Act
  -- this message comes
  Takes : PeerMsg → Act
  -- this stops the session where a message is due
  Stops : Cause → Act

-- what stops a session where a message is due: the wire, its bytes, the budget or memory
abbrev pub IsStop : Cause → Type 0
IsStop cause.Ended = Unit {0}
IsStop cause.WireFault = Unit {0}
IsStop (cause.BadFrame fault) = Unit {0}
IsStop (cause.BadMsg fault) = Unit {0}
IsStop cause.Spent = Unit {0}
IsStop cause.NoMemory = Unit {0}
IsStop _ = ⊥

-- what stops it where a message is sent
abbrev pub IsBreak : Cause → Type 0
IsBreak cause.WireFault = Unit {0}
IsBreak cause.NoMemory = Unit {0}
IsBreak _ = ⊥

-- the act is one that may come where this is due
abbrev pub MayCome : Plan → Act → Type 0
MayCome (Begin s) Begins = Unit {0}
MayCome (Paused s) Begins = Unit {0}
MayCome (Send msg rest) (Sends sent) = sent ≡ msg
MayCome (Send msg rest) (Breaks sent part cause) = (sent ≡ msg) × IsBreak cause × IsFront part (spell_msg msg)
MayCome (Ask ask then) (Asks asked answer added) = asked ≡ ask
MayCome (Last ask then) (Asks asked answer added) = asked ≡ ask
MayCome (Read s) (Takes msg) = Unit {0}
MayCome (Read s) (Stops cause) = IsStop cause
MayCome _ _ = ⊥

-- what is due after the act
abbrev pub after : Plan → Act → Plan
after (Begin s) Begins = start s
after (Paused s) Begins = turn s
after (Send msg rest) (Sends sent) = rest
after (Send msg rest) (Breaks sent part cause) = finish cause
after (Ask ask then) (Asks asked answer added) = then answer
after (Last ask then) (Asks asked answer added) = then answer
after (Read s) (Takes msg) = row s msg
after (Read s) (Stops cause) = finish cause
after plan _ = plan

-- the acts lead from one plan to the other
abbrev pub Run : Plan → List Act → Plan → Type 0
Run from [] to = from ≡ to
Run from (act ∷ acts) to = MayCome from act × Run (after from act) acts to

-- a frame that is this message stands in front of the bytes
pub record Comes (msg : PeerMsg) (old new : Option (List ℕ)) : Type 0 where
  pub frame : Frame
  pub is_frame : IsFrame frame
  pub says : message frame ≡ Ok msg
  pub first : old ≡ prepend_known (spell frame) new

-- a frame that is no message stands in front of the bytes
pub record IsBad (fault : MsgFault) (bytes : List ℕ) : Type 0 where
  pub frame : Frame
  pub rest : List ℕ
  pub first : IsFrameAt frame bytes rest
  pub refused : message frame ≡ Err fault

-- what of the bytes stops the session; their end comes within a frame or before one
abbrev pub StandsNext : Cause → List ℕ → Type 0
StandsNext cause.Ended bytes = IsPartial bytes
StandsNext (cause.BadFrame fault) bytes = IsFaultAt fault bytes
StandsNext (cause.BadMsg fault) bytes = IsBad fault bytes
StandsNext _ bytes = Unit {0}

-- the first act begins a call
abbrev pub BeginsFirst : List Act → Type 0
BeginsFirst (Begins ∷ acts) = Unit {0}
BeginsFirst _ = ⊥

-- What a stop leaves of the bytes ahead: all of them, but for a frame that is no message, which was taken. Where
-- memory was wanted, some may be lost.
abbrev pub Leaves : Cause → Option (List ℕ) → Option (List ℕ) → Type 0
Leaves cause.NoMemory old new = Unit {0}
Leaves (cause.BadMsg fault) old new = (frame : Frame) × (old ≡ prepend_known (spell frame) new)
Leaves _ old new = new ≡ old

-- The bytes ahead, where they are told, and those that are left after the acts.
abbrev pub Reads : List Act → Option (List ℕ) → Option (List ℕ) → Type 0
Reads [] old new = old ≡ new
Reads (Takes msg ∷ acts) old new = (mid : Option (List ℕ)) × Comes msg old mid × Reads acts mid new
Reads (Stops cause ∷ acts) old new = IfSome old (StandsNext cause) × (mid : Option (List ℕ)) × Leaves cause old mid × Reads acts mid new
Reads (_ ∷ acts) old new = Reads acts old new

-- all that is sent
abbrev pub spelled : List Act → List ℕ
spelled [] = []
spelled (Sends msg ∷ acts) = spell_msg msg ++ spelled acts
spelled (Breaks msg part cause ∷ acts) = part ++ spelled acts
spelled (_ ∷ acts) = spelled acts

-- all that the peer's calls of the desk add to the log
abbrev pub added : List Act → List Event
added [] = []
added (Asks ask answer events ∷ acts) = events ++ added acts
added (_ ∷ acts) = added acts

-- how many messages are taken
abbrev pub heard : List Act → ℕ
heard [] = 0
heard (Takes msg ∷ acts) = heard acts + 1
heard (_ ∷ acts) = heard acts

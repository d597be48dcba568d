-- What is due in a download session: a message to send, a call of the desk and what follows each answer, a
-- message to wait for, or nothing more.
use Rattle.client_msgs.specs.declared.msg.PeerMsg.{PeerMsg}
use Rattle.reserve_core.specs.declared.desk.Answer.{Answer}
use Rattle.reserve_core.specs.declared.desk.DeskAsk.{DeskAsk}
use Rattle.peer_fetch.specs.declared.cause.Cause.{Cause}
use Rattle.peer_fetch.specs.declared.session.Session.{Session}

pub data Plan : Type 0 where
  -- nothing was done yet
  Begin : Session → Plan
  Send : PeerMsg → Plan → Plan
  Ask : DeskAsk → (Answer → Plan) → Plan
  -- one of the two calls at the end, for which no memory is taken
  Last : DeskAsk → (Answer → Plan) → Plan
  Read : Session → Plan
  -- ended because nothing was left to reserve; a later call goes on
  Paused : Session → Plan
  Ended : Cause → Plan

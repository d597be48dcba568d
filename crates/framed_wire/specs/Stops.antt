-- Why no further frame comes.
use Rattle.std.specs.Prelude.{◌≡◌, ◌≢◌, ℕ, ◌+◌, ◌<◌, ◌≤◌, List, [], ◌++◌, length}
use Rattle.std.specs.Io.KnownBytes.{IsAtEnd, prepend_known}
use Rattle.ed2k_frame.specs.Front.{IsPartial, IsFaultAt}
use Rattle.ed2k_frame.specs.declared.fault.FrameFault.{FrameFault}
use Rattle.ed2k_frame.specs.declared.fault.FrameFault.TheVariants as frame_fault
use Rattle.ed2k_outside.specs.Causes.{Rose}
use Rattle.framed_wire.specs.Inlet.{Inlet}
use Rattle.framed_wire.specs.declared.stop.Stop.{Stop}
use Rattle.framed_wire.specs.declared.stop.Stop.TheVariants.{Ended, WireFault, BadFrame, Spent, NoMemory}

-- what a fault of a frame is to a reader
abbrev pub stop_of : FrameFault → Stop
stop_of frame_fault.NoMemory = NoMemory
stop_of fault = BadFrame fault

-- the piece was taken from the front of the bytes left, and counted
pub record Takes (piece : List ℕ) (old new : Inlet) : Type 0 where
  pub front : old.left ≡ prepend_known piece new.left
  pub counted : new.taken ≡ old.taken + length piece
  pub faults : old.faults ≤ new.faults

-- Why no frame was given. A read that the budget allowed found the end, or failed; a fault stands next; or
-- the budget is used up. But for the fault, less than a frame of what was taken is left.
abbrev pub IsCause : ℕ → Stop → Inlet → Inlet → Type 0
IsCause budget Ended old new = (new.taken < budget) × IsAtEnd new.left × IsPartial new.unread
IsCause budget WireFault old new = (new.taken < budget) × Rose old.faults new.faults × IsPartial new.unread
IsCause budget (BadFrame fault) old new = IsFaultAt fault new.unread
IsCause budget Spent old new = (budget ≤ new.taken) × IsPartial new.unread
IsCause budget NoMemory old new = Unit {0}

-- a piece was taken, and this stopped the reader, which has all of it but for want of memory
pub record StopsBy (budget : ℕ) (stop : Stop) (old new : Inlet) : Type 0 where
  pub piece : List ℕ
  pub takes : Takes piece old new
  pub lost : List ℕ
  pub kept : old.unread ++ piece ≡ new.unread ++ lost
  pub nothing_lost : stop ≢ NoMemory → lost ≡ []
  pub cause : IsCause budget stop old new

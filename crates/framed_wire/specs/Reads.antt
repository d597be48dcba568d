-- What a call takes of its source, and the frame that it gives.
use Rattle.std.specs.Prelude.{◌≡◌, ℕ, List, ◌++◌, Result, Ok, Err}
use Rattle.ed2k_frame.specs.Front.{IsFrameAt}
use Rattle.ed2k_frame.specs.declared.frame.Frame.{Frame}
use Rattle.framed_wire.specs.Inlet.{Inlet}
use Rattle.framed_wire.specs.Stops.{StopsBy, Takes}
use Rattle.framed_wire.specs.declared.stop.Stop.{Stop}

-- a piece was taken, and nothing was given
pub record TakesMore (old new : Inlet) : Type 0 where
  pub piece : List ℕ
  pub takes : Takes piece old new
  pub unread : new.unread ≡ old.unread ++ piece

-- a piece was taken, and a frame that stands in front of what was taken was given
pub record Gives (frame : Frame) (old new : Inlet) : Type 0 where
  pub piece : List ℕ
  pub takes : Takes piece old new
  pub first : IsFrameAt frame (old.unread ++ piece) new.unread

-- the next frame was given, or this stops the reader
abbrev pub Reads : ℕ → Result Frame Stop → Inlet → Inlet → Type 0
Reads budget (Ok frame) old new = Gives frame old new
Reads budget (Err stop) old new = StopsBy budget stop old new

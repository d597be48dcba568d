-- The frames of a stream, and what follows them.
use Rattle.std.specs.Prelude.{◌≡◌, ℕ, List, ◌++◌, Option, None, Some}
use Rattle.std.specs.List.{flat_map, AllByRecursion}
use Rattle.ed2k_frame.specs.declared.frame.Frame.{Frame}
use Rattle.ed2k_frame.specs.declared.fault.FrameFault.{FrameFault}
use Rattle.ed2k_frame.specs.Frame.{IsFrame, spell}
use Rattle.ed2k_frame.specs.Front.{IsPartial, IsFaultAt}
use Rattle.ed2k_frame.specs.Reading.{Reading}

-- the stream is these frames, one after another, and then the rest
pub record Splits (stream : List ℕ) (frames : List Frame) (rest : List ℕ) : Type 0 where
  pub each : AllByRecursion IsFrame frames
  pub joined : stream ≡ flat_map spell frames ++ rest

-- what ends the frames: less than a whole one, or this fault in a frame's place
abbrev pub IsEnd : Option FrameFault → List ℕ → Type 0
IsEnd None rest = IsPartial rest
IsEnd (Some fault) rest = IsFaultAt fault rest

-- all whole frames of the stream, and what follows them
pub record Parts (stream : List ℕ) (frames : List Frame) (end : Reading) : Type 0 where
  pub splits : Splits stream frames end.rest
  pub ended : IsEnd end.said end.rest

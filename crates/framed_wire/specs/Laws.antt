-- What many calls of a reader have given.
use Rattle.std.specs.Prelude.{◌≡◌, ◌≢◌, ℕ, ◌<◌, ◌≤◌, List, [], ◌∷◌, ◌++◌, length, take, Option, Some, None}
use Rattle.std.specs.Io.KnownBytes.{prepend_known}
use Rattle.ed2k_frame.specs.Reading.{Reading}
use Rattle.ed2k_frame.specs.Streams.{Parts, Splits}
use Rattle.ed2k_frame.specs.declared.frame.Frame.{Frame}
use Rattle.framed_wire.specs.Inlet.{Inlet}
use Rattle.framed_wire.specs.Reads.{Gives}
use Rattle.framed_wire.specs.Stops.{IsCause, StopsBy}
use Rattle.framed_wire.specs.declared.stop.Stop.{Stop}
use Rattle.framed_wire.specs.declared.stop.Stop.TheVariants.{Ended, WireFault, BadFrame, Spent, NoMemory}

-- What was taken are the first bytes of those that the source had. They are counted, and are the frames that were
-- given, one after another, and then what is unread.
pub record HasRead (first : Option (List ℕ)) (frames : List Frame) (now : Inlet) : Type 0 where
  pub got : List ℕ
  pub front : first ≡ prepend_known got now.left
  pub counted : now.taken ≡ length got
  pub splits : Splits got frames now.unread

-- it holds at the start, and each call keeps it
pub record CallsGoOn : Type 0 where
  pub start : (now : Inlet) → now.taken ≡ 0 → now.unread ≡ [] → HasRead now.left [] now
  pub frame : (first : Option (List ℕ)) (frames : List Frame) (frame : Frame) (old new : Inlet) →
      HasRead first frames old → Gives frame old new → HasRead first (frames ++ frame ∷ []) new
  pub stop : (first : Option (List ℕ)) (frames : List Frame) (budget : ℕ) (stop : Stop) (old new : Inlet) →
      HasRead first frames old → StopsBy budget stop old new → stop ≢ NoMemory → HasRead first frames new

-- what was given is a front of the frames of all that may be taken
abbrev pub GivenComesFirst : Type 0
GivenComesFirst =
    (stream : List ℕ) (given frames : List Frame) (end : Reading) (budget : ℕ) (now : Inlet) →
    HasRead (Some stream) given now → now.taken ≤ budget → Parts (take budget stream) frames end →
    (later : List Frame) × (frames ≡ given ++ later)

-- What a stop says of all that may be taken of a stream: these were all its frames, and why no more come.
abbrev pub EndsSo : ℕ → List ℕ → List Frame → List Frame → Reading → Stop → Type 0
EndsSo budget stream given frames end Ended = (frames ≡ given) × (end.said ≡ None) × (length stream < budget)
EndsSo budget stream given frames end Spent = (frames ≡ given) × (end.said ≡ None) × (budget ≤ length stream)
EndsSo budget stream given frames end (BadFrame fault) = (frames ≡ given) × (end.said ≡ Some fault)
EndsSo budget stream given frames end WireFault = Unit {0}
EndsSo budget stream given frames end NoMemory = Unit {0}

-- a stop is the end of what may be taken, or a failure
abbrev pub StopsEnd : Type 0
StopsEnd =
    (stream : List ℕ) (given frames : List Frame) (end : Reading) (budget : ℕ) (stop : Stop) (old now : Inlet) →
    HasRead (Some stream) given now → now.taken ≤ budget → IsCause budget stop old now →
    Parts (take budget stream) frames end → EndsSo budget stream given frames end stop

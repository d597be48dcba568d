-- What holds of each stream, however it comes in pieces.
use Rattle.std.specs.Prelude.{◌≡◌, ℕ, ◌<◌, List, [], ◌∷◌, ◌++◌, slice_index}
use Rattle.ed2k_frame.specs.declared.frame.Frame.{Frame}
use Rattle.ed2k_frame.specs.Frame.{IsFrame, spell}
use Rattle.ed2k_frame.specs.Front.{IsFrameAt}
use Rattle.ed2k_frame.specs.Reading.{Reading}
use Rattle.ed2k_frame.specs.Streams.{Splits, Parts}

-- a list of bytes
abbrev pub IsBytes : List ℕ → Type 0
IsBytes bytes = (i : ℕ) → slice_index bytes i < 256

-- no frame's spelling begins another's
abbrev pub NoFrameBeginsAnother : Type 0
NoFrameBeginsAnother =
    (frame other : Frame) (rest : List ℕ) → IsFrame frame → IsFrame other → spell frame ≡ spell other ++ rest → (frame ≡ other) × (rest ≡ [])

-- frames, rest and fault leave nothing out
abbrev pub EachStreamHasParts : Type 0
EachStreamHasParts = (stream : List ℕ) → IsBytes stream → (frames : List Frame) × (end : Reading) × Parts stream frames end

-- they exclude one another, and no frame's spelling begins another's: two readings of a stream are one
abbrev pub PartsAreOne : Type 0
PartsAreOne =
    (stream : List ℕ) (frames others : List Frame) (end other : Reading) →
    Parts stream frames end → Parts stream others other → (frames ≡ others) × (end ≡ other)

-- what was split off in front of a rest is a front of all the frames, and the others are those of the rest
abbrev pub GivenComesFirst : Type 0
GivenComesFirst =
    (stream : List ℕ) (given : List Frame) (rest : List ℕ) (frames : List Frame) (end : Reading) →
    Splits stream given rest → Parts stream frames end →
    (later : List Frame) × (frames ≡ given ++ later) × Parts rest later end

-- nothing was fed and nothing given; a piece goes to the rest; a frame at the front of the rest is given
pub record KeepSplits : Type 0 where
  pub start : Splits [] [] []
  pub feed : (stream : List ℕ) (given : List Frame) (rest piece : List ℕ) →
      Splits stream given rest → Splits (stream ++ piece) given (rest ++ piece)
  pub next : (stream : List ℕ) (given : List Frame) (rest left : List ℕ) (frame : Frame) →
      Splits stream given rest → IsFrameAt frame rest left → Splits stream (given ++ frame ∷ []) left

-- What stands at the front of a stream's bytes: a whole frame, less than a whole one, or a fault.
use Rattle.std.specs.Prelude.{◌≡◌, ◌≢◌, ℕ, ◌+◌, ◌<◌, ◌≤◌, ◌⊎◌, List, [], ◌∷◌, ◌++◌, length}
use Rattle.byteorder.specs.Endian.{little_number}
use Rattle.ed2k_frame.specs.declared.frame.Frame.{Frame}
use Rattle.ed2k_frame.specs.declared.frame.TheConstants.{EDONKEY, EMULE, PACKED}
use Rattle.ed2k_frame.specs.declared.fault.FrameFault.{FrameFault}
use Rattle.ed2k_frame.specs.declared.fault.FrameFault.TheVariants.{Packed, BadProtocol, BadLength, NoMemory}
use Rattle.ed2k_frame.specs.Frame.{IsProtocol, IsLength, IsFrame, spell}

-- the bytes are a frame, and then the rest
pub record IsFrameAt (f : Frame) (bytes rest : List ℕ) : Type 0 where
  pub valid : IsFrame f
  pub spelled : bytes ≡ spell f ++ rest

-- Less than the head asks for: nothing; or a right protocol byte, and then fewer than the four bytes of
-- a length, or a right length and fewer bytes than it says.
abbrev pub IsPartial : List ℕ → Type 0
IsPartial [] = Unit {0}
IsPartial (p ∷ bytes) =
    IsProtocol p
    × ((length bytes < 4) ⊎ (IsLength (little_number 4 bytes) × (length bytes < 4 + little_number 4 bytes)))

-- a fault in a frame's place, which is seen as soon as its byte, or the four bytes of its length, are there
abbrev pub IsFaultAt : FrameFault → List ℕ → Type 0
IsFaultAt fault [] = ⊥
IsFaultAt Packed (p ∷ bytes) = p ≡ PACKED
IsFaultAt (BadProtocol found) (p ∷ bytes) = (found ≡ p) × (p ≢ EDONKEY) × (p ≢ EMULE) × (p ≢ PACKED)
IsFaultAt (BadLength found) (p ∷ bytes) =
    IsProtocol p × (4 ≤ length bytes) × (found ≡ little_number 4 bytes) × ¬ IsLength found
IsFaultAt NoMemory (p ∷ bytes) = ⊥

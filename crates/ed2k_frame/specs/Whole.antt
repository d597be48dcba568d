-- What the reader sees at the front of its bytes, before it copies a frame.
use Rattle.std.specs.Prelude.{◌≡◌, ℕ, ◌+◌, ◌≤◌, List, [], ◌∷◌, length}
use Rattle.byteorder.specs.Endian.{little_number}
use Rattle.ed2k_frame.specs.declared.front.Front.{Front}
use Rattle.ed2k_frame.specs.declared.front.Front.TheVariants.{Partial, Whole, Faulty}
use Rattle.ed2k_frame.specs.Frame.{IsProtocol, IsLength}
use Rattle.ed2k_frame.specs.Front.{IsPartial, IsFaultAt}

-- a right head with this length field, and as many bytes as it says
abbrev pub IsWhole : ℕ → List ℕ → Type 0
IsWhole n [] = ⊥
IsWhole n (p ∷ bytes) = IsProtocol p × IsLength n × (n ≡ little_number 4 bytes) × (4 + n ≤ length bytes)

abbrev pub IsFront : Front → List ℕ → Type 0
IsFront Partial bytes = IsPartial bytes
IsFront (Whole n) bytes = IsWhole n bytes
IsFront (Faulty fault) bytes = IsFaultAt fault bytes

-- How a frame is spelled. The eMule Protocol Specification (Kulbak, Bickson, 2005), on message headers.
use Rattle.std.specs.Prelude.{◌≡◌, ℕ, ◌+◌, ◌≤◌, ◌⊎◌, List, [], ◌∷◌, ◌++◌, length}
use Rattle.byteorder.specs.Endian.{little_bytes}
use Rattle.ed2k_frame.specs.declared.frame.Frame.{Frame}
use Rattle.ed2k_frame.specs.declared.frame.TheConstants.{EDONKEY, EMULE, FRAME_LIMIT}

-- the protocols whose frames are read and written
abbrev pub IsProtocol : ℕ → Type 0
IsProtocol p = (p ≡ EDONKEY) ⊎ (p ≡ EMULE)

-- what a length field may say
abbrev pub IsLength : ℕ → Type 0
IsLength n = (1 ≤ n) × (n ≤ FRAME_LIMIT)

-- what comes before a payload of this length: the protocol byte, the length of opcode and payload in
-- four bytes with the lowest first, and the opcode
abbrev pub head : ℕ → ℕ → ℕ → List ℕ
head protocol opcode len = (protocol ∷ little_bytes 4 (len + 1)) ++ opcode ∷ []

abbrev pub spell : Frame → List ℕ
spell f = head f.protocol f.opcode (length f.payload) ++ f.payload

-- what may be sent and is read
pub record IsFrame (f : Frame) : Type 0 where
  pub protocol : IsProtocol f.protocol
  pub fits : length f.payload + 1 ≤ FRAME_LIMIT

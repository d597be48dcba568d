-- What is done to one half of a wire.
use Rattle.std.specs.Prelude.{◌≡◌, ℕ, ◌+◌, ◌<◌, ◌≤◌, List, length, Result, Ok, Err, Option}
use Rattle.std.specs.Io.KnownBytes.{IsAtEnd, prepend_known, append_known}
use Rattle.ed2k_outside.specs.Causes.{IfKnown, Rose}
use Rattle.ed2k_frame.specs.Reading.{Reading}
use Rattle.ed2k_outside.specs.WireMembers.{WireMembers}
use Rattle.peer_fetch.specs.declared.link.TheConstants.{PIECE}
use Rattle.peer_fetch.specs.declared.cause.Cause.{Cause}
use Rattle.peer_fetch.specs.declared.cause.Cause.TheVariants as cause

-- where bytes come from: those in the reader, those left on the wire, and how often reading failed
pub record Inlet : Type 0 where
  pub unread : List ℕ
  pub left : Option (List ℕ)
  pub faults : ℕ

abbrev pub inlet : {W : Type 0} → WireMembers W → W → Reading → Inlet
inlet m wire reader = record { unread = reader.rest; left = m.left wire; faults = m.read_faults wire }

-- the bytes in the reader and those left on the wire are as before when joined
pub record FillsSome (most n : ℕ) (old new : Inlet) : Type 0 where
  pub some : 0 < n
  pub within : n ≤ most
  pub piece : n ≤ PIECE
  pub grows : length new.unread ≡ length old.unread + n
  pub same : prepend_known new.unread new.left ≡ prepend_known old.unread old.left

-- why the reader could not be filled, and how many bytes were taken of the wire: none, unless memory was wanted
abbrev pub IsFillStop : Cause → ℕ → Inlet → Inlet → Type 0
IsFillStop cause.WireFault n old new = (n ≡ 0) × Rose old.faults new.faults × (new.left ≡ old.left)
IsFillStop cause.Ended n old new = (n ≡ 0) × IsAtEnd old.left × (new.left ≡ old.left)
IsFillStop cause.NoMemory n old new = Unit {0}
IsFillStop _ n old new = ⊥

-- so many bytes are left less than before
abbrev pub Shrinks : ℕ → Option (List ℕ) → Option (List ℕ) → Type 0
Shrinks n old new = IfKnown (λ bytes bytes_now. length bytes ≡ length bytes_now + n) old new

-- n bytes were taken of the wire, at most so many
abbrev pub Fills : ℕ → ℕ → Result (Unit {0}) Cause → Inlet → Inlet → Type 0
Fills most n (Ok done) old new = FillsSome most n old new
Fills most n (Err cause) old new =
    IsFillStop cause n old new × (new.unread ≡ old.unread) × (n ≤ most) × Shrinks n old.left new.left

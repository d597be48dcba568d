-- When no further round with the peers is due.
use Rattle.std.specs.Prelude.{◌≢◌, ◌⊎◌, ℕ, ◌<◌, List, IfSome, IsTrue}
use Rattle.std.specs.List.{All}
use Rattle.part_hashset.specs.declared.aim.Aim.{Aim}
use Rattle.part_sizes.specs.Part.{data_parts}
use Rattle.peer_fetch.specs.declared.cause.Cause.TheVariants as cause
use Rattle.peer_fetch.specs.declared.peer_end.PeerEnd.{PeerEnd}
use Rattle.reserve_core.specs.Choice.{offers_part}
use Rattle.reserve_core.specs.Events.{events}
use Rattle.reserve_core.specs.Verdicts.{is_verified}
use Rattle.reserve_core.specs.declared.event.Entry.{Entry}
use Rattle.reserve_core.specs.declared.event.Event.{Event}
use Rattle.ed2k_node.specs.Left.{IsComplete}
use Rattle.ed2k_node.specs.Status.{HasWorn}

-- each part that the peer offered last is verified
abbrev pub HasGiven : Aim → List Event → ℕ → Type 0
HasGiven aim h p = (part : ℕ) → part < data_parts aim.size → IsTrue (offers_part h p part) → IsTrue (is_verified aim h part)

-- a peer that is alive has given all that it offered
abbrev pub HasNoMore : Aim → List Entry → PeerEnd → Type 0
HasNoMore aim log met = IsTrue met.alive → IfSome met.number (HasGiven aim (events log))

-- No further round is due: every part is verified, or some part failed eight times, or each peer that is
-- alive has given all that it offered.
abbrev pub Rounds : Aim → List Entry → List PeerEnd → Type 0
Rounds aim log peers = IsComplete aim (events log) ⊎ HasWorn aim log ⊎ All (HasNoMore aim log) peers

-- A download is incomplete: a part isn't verified, each peer that is alive has given all that it offered, and
-- none was refused memory.
pub record IsShort (aim : Aim) (log : List Entry) (peers : List PeerEnd) : Type 0 where
  pub lacks : IsComplete aim (events log) → ⊥
  pub given : All (HasNoMore aim log) peers
  pub supplied : All (λ met. met.cause ≢ cause.NoMemory) peers

-- The file that a link names, and the log of a store that is made for it.
use Rattle.std.specs.Prelude.{◌≡◌, ℕ, ◌&&◌, nat_le, Bool, List, [], ◌∷◌, Some, None, is_none, if◌then◌else◌}
use Rattle.ed2k_link.specs.Grammar.{fault_of}
use Rattle.ed2k_link.specs.declared.fault.LinkFault.{LinkFault}
use Rattle.ed2k_link.specs.declared.link.FileLink.{FileLink}
use Rattle.part_hashset.specs.HashSet.{set_fault}
use Rattle.part_hashset.specs.declared.aim.Aim.{Aim}
use Rattle.part_sizes.specs.declared.part.TheConstants.{PART}
use Rattle.peer_fetch.specs.Serves.{nothing}
use Rattle.reserve_core.specs.declared.event.Event.{Event}
use Rattle.reserve_core.specs.declared.event.Event.TheVariants.{Opened, Hashes}

-- its size and hash; the root is passed over
abbrev pub aim_of : FileLink → Aim
aim_of link = record { size = link.size; hash = link.hash; root = None }

-- the text writes no link
abbrev pub IsBad : List ℕ → Type 0
IsBad text = (fault : LinkFault) × (fault_of text ≡ Some fault)

-- the part hashes of a link are kept where a hash set is needed and they are a valid one
abbrev pub keeps_parts : Aim → List (List ℕ) → Bool
keeps_parts aim parts = nat_le PART aim.size && is_none (set_fault aim.size aim.hash parts)

-- the log of a store that was just made for a link with these part hashes
abbrev pub opened_log : Aim → List (List ℕ) → List Event
opened_log aim parts = if keeps_parts aim parts then Opened nothing ∷ Hashes parts ∷ [] else Opened nothing ∷ []
